-- The laws of a field of one's own, which wraps the numbers below a modulus.
use Rattle.std.proofs.Common.{◌≡◌, ◌==◌, refl}
use Rattle.std.proofs.lemmas.Bool.Decides.{Decides-eqb}
use Rattle.std.specs.Bool.{Decides}
use Rattle.ark_base.specs.Digits.{below_at, bytes_for}
use Rattle.ark_groups.specs.declared.ff.modulus.Modulus.{Ghosts}
use Rattle.ark_groups.specs.declared.ff.fp.Fp.{Fp}
use Rattle.examples.specs.declared.bounds.number.Number.{Number}
use Rattle.ark_groups.specs.Laws.Fp.{fp_same, fp_of, made_as_read}
use Rattle.ark_groups.specs.Field.{IsField, ReadsNumbers}

module _ {M : Type 0} {g : Ghosts M} where
  -- the wrapped element
  abbrev pub number_of : Fp M g → Number M g
  number_of x = record { 0 = x }

  pub same_own : (x y : Number M g) → x.0 ≡ y.0 → x ≡ y
  same_own x y e = λ i. record { 0 = e i }

  pub own_laws : IsField g.P (λ (x : Number M g). x.0.value)
  own_laws = record {
    below = λ x. x.0.reduced;
    same = λ x y e. same_own x y (fp_same x.0 y.0 e);
    made = λ n below. (number_of (fp_of n below), refl);
  }

  pub own-Decides : (x y : Number M g) → Decides (x.0.value == y.0.value) (x.0.value ≡ y.0.value)
  own-Decides x y = Decides-eqb x.0.value y.0.value

  pub own_reads : ReadsNumbers g.P g.BITS (λ (x : Number M g). x.0.value) (below_at g.P (bytes_for g.BITS))
      (λ (x : Number M g). x.0.value)
  own_reads = record { number = λ n. n; of_view = λ x. refl; reading = made_as_read (below_at g.P (bytes_for g.BITS)) }
