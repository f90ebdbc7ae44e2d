use Rattle.std.proofs.Common.{◌≡◌, ◌+◌, ℕ, List, [], ◌∷◌, get_or, map, replicate, Ok, refl, ap, arith}
use Rattle.ark_base.specs.Laws.Steps.{done_injective}
use Rattle.ark_base.specs.Outcome.{Outcome}
use Rattle.ark_sponge.proofs.poseidon.digest.digest_of.Goals as goal

one_read : {A : Type 0} (f : A → ℕ) (xs : List A) (n : ℕ) (d : A) → map f xs ≡ n ∷ [] → n ∷ [] ≡ f (get_or xs 0 d) ∷ []
one_read f [] n d one = absurd cc
one_read f (x ∷ xs) n d one = cc

pub write_digest-requires-clause-width : goal.write_digest-requires-clause-width
write_digest-requires-clause-width g c =
    omega (arith, c.deref_mut.ensures.len, c.in_ok-state.ensures.count, c.rate.ensures.value, c.capacity.ensures)

pub write_digest-requires-clause-scratch : goal.write_digest-requires-clause-scratch
write_digest-requires-clause-scratch g c =
    omega (
      arith,
      c.deref_mut.ensures.len,
      c.deref_mut-2.ensures.len,
      c.in_ok-state.ensures.count,
      c.in_ok-scratch.ensures.count,
    )

pub write_digest-requires-clause-zeros : goal.write_digest-requires-clause-zeros
write_digest-requires-clause-zeros g c =
    let zeros = done_injective (replicate (c.rate.result + c.capacity.result) 0)
    (map g.F.Valued.value c.in_ok-state.state.items) c.in_ok-state.ensures.numbers in
    rw (c.deref_mut.ensures.value, ← zeros, c.rate.ensures.value, c.capacity.ensures) refl

pub returns : goal.returns
returns g c =
    let given : List ℕ → Outcome (List ℕ) = λ xs. Ok xs in
    ap given (one_read g.F.Valued.value c.write_digest.new.out _ c.index-given-0.result c.write_digest.ensures)
