-- What is told of bytes that spell a path or a multi-proof.
use Rattle.std.proofs.Common.{◌≡◌, ℕ, ◌<◌, List, [], ◌∷◌, length, Bool, Option, Some, None, Ok, Err, refl, sym, ap, ◌∙◌, inl, inr, arith}
use Rattle.std.specs.Option.{option_map}
use Rattle.ark_base.specs.declared.error.Error.{Error}
use Rattle.ark_base.specs.Outcome.{Outcome, Answers}
use Rattle.ark_base.specs.Reading.{Reading, reading_outcome}
use Rattle.ark_paths.specs.MultiPath.{MultiWay, multi_verdict}
use Rattle.ark_paths.specs.Pair.{Digest, HashPair}
use Rattle.ark_paths.specs.Root.{root}
use Rattle.acp_run.specs.declared.session.replies.Finding.{Finding}
use Rattle.acp_run.specs.declared.session.replies.Finding.TheVariants.{Trailing}
use Rattle.acp_run.specs.Replies.{Refused, Tells, finding_reply, text}
use Rattle.acp_run.specs.Steps.{alone, alone_of, about, found_by_multi}

-- ---- proofs as bytes

-- bytes are left behind a value
pub alone_of-more : {V W : Type 0} (r : Reading V) (s : Reading W) (v : V) (w : W) (rest : List ℕ)
    → (r ≡ Ok (v, rest) → s ≡ Ok (w, rest)) → reading_outcome r ≡ Ok (v, rest) → 0 < length rest → alone_of s ≡ Ok None
alone_of-more r s v w rest same read some = rw (same (read_told r (v, rest) read)) (by_rest rest some)
  where
    read_told : {X : Type 0} (r : Reading X) (x : X × List ℕ) → reading_outcome r ≡ Ok x → r ≡ Ok x
    read_told (Ok y) x is = let same : y ≡ x = cc in ap Ok same
    read_told (Err fault) x is = absurd cc

    by_rest : (bytes : List ℕ) → 0 < length bytes → alone (w, bytes) ≡ Ok None
    by_rest [] some = absurd (omega arith)
    by_rest (b ∷ bytes) some = refl

-- ---- what is said of them

-- a verdict on a multi-proof that stands alone, where the root is known
module _ {X : Type 0} (view : X → MultiWay) (o : Option X) (x : X) (reading : Reading MultiWay)
    (read : alone_of reading ≡ Ok (option_map view o)) (is : o ≡ Some x)
    (h k : HashPair) (same : h ≡ k) (digests : List Digest) (r : Digest) (rooted : root h digests ≡ Ok r)
    (leaves : List (Outcome Digest)) where
  rooted-k : root k digests ≡ Ok r
  rooted-k = rw (← same) rooted

  pub multi-refused : (told : Bool → Finding) (e : Error) → multi_verdict k leaves (view x) r ≡ Err e
      → about (found_by_multi told k digests leaves) reading ≡ Err e
  multi-refused told e refused = rw (read, is, rooted-k, refused) refl

  pub multi-said : (told : Bool → Finding) (v : Bool) → multi_verdict k leaves (view x) r ≡ Ok v
      → about (found_by_multi told k digests leaves) reading ≡ Ok (told v)
  multi-said told v said = rw (read, is, rooted-k, said) refl

-- what is said of a value that was read
pub about-refused : {W : Type 0} (say : W → Outcome Finding) (reading : Reading W) (e : Error)
    → reading_outcome reading ≡ Err e → about say reading ≡ Err e
about-refused say reading e refused = rw refused refl

pub about-more : {W : Type 0} (say : W → Outcome Finding) (reading : Reading W) (w : W) (rest : List ℕ)
    → reading_outcome reading ≡ Ok (w, rest) → 0 < length rest → about say reading ≡ Ok Trailing
about-more say reading w [] read some = absurd (omega arith)
about-more say reading w (b ∷ bs) read some = rw read refl

pub about-said : {W : Type 0} (say : W → Outcome Finding) (reading : Reading W) (w : W) (rest : List ℕ)
    → reading_outcome reading ≡ Ok (w, rest) → length rest ≡ 0 → about say reading ≡ say w
about-said say reading w [] read none = rw read refl
about-said say reading w (b ∷ bs) read none = absurd (omega arith)

-- what a call found is told, or that memory lacks
pub tells_found : (o result : Outcome Finding) (bytes : List ℕ) → Answers o result → bytes ≡ text (finding_reply result)
    → Tells (finding_reply o) bytes
tells_found o (Ok finding) bytes is told = inl (told ∙ ap (λ o. text (finding_reply o)) (sym is))
tells_found (Ok finding) (Err e) bytes (inl memory) told = inr (told ∙ ap (λ e. text (Refused e)) memory, tt)
tells_found (Err error) (Err e) bytes (inl memory) told = inr (told ∙ ap (λ e. text (Refused e)) memory, tt)
tells_found o (Err e) bytes (inr refused) told = inl (told ∙ ap (λ o. text (finding_reply o)) (sym refused))
