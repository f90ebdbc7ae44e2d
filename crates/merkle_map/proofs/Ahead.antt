-- What was hashed together, place by place.
use Rattle.std.proofs.Common.{◌≡◌, ◌<◌, ◌≤◌, ℕ, zero, suc, List, [], ◌∷◌, length, map, get_or, Bor, IfOk, Ok, Err, ap, sym, ◌∙◌, subst, arith}
use Rattle.std.proofs.lemmas.List.{length-map, get_or-map}
use Rattle.std.specs.declared.vec.Vec.{Vec}
use Rattle.ark_base.specs.Digits.{itself}
use Rattle.ark_base.specs.Outcome.{Outcome}
use Rattle.ark_crh.specs.Ahead.{couple_seen, lent_couple, of_couple, AreOfFirst, HashesAhead}
use Rattle.merkle_map.specs.Map.{Digest, Key, MapHashes}
use Rattle.merkle_map.specs.Together.{AreHashedEntries}

module _ {A B : Type 0} (hash : A → Outcome B) where
  -- there are as many items
  pub first-fit : (items : List A) (values : List B) → AreOfFirst hash items values → length values ≤ length items
  first-fit items [] is = omega arith
  first-fit [] (v ∷ values) is = absurd cc
  first-fit (x ∷ items) (v ∷ values) is =
      let others : AreOfFirst hash items values = cc in
      let below = first-fit items values others in omega (arith, below)

  -- each value is that of its item
  pub first-at : (items : List A) (values : List B) (n : ℕ) (x : A) (v : B) → AreOfFirst hash items values
      → n < length values → hash (get_or items n x) ≡ Ok (get_or values n v)
  first-at items [] n x v is inside = absurd (omega (arith, inside))
  first-at [] (w ∷ values) n x v is inside = absurd cc
  first-at (y ∷ items) (w ∷ values) zero x v is inside = cc
  first-at (y ∷ items) (w ∷ values) (suc n) x v is inside =
      let others : AreOfFirst hash items values = cc in
      first-at items values n x v others (omega (arith, inside))

-- the digest of a couple of references
pub couple-at : {D : Type 0} (numbers : D → Digest) (hash : Digest → Digest → Outcome Digest)
    (couples : List (Bor D × Bor D)) (digests : List D) (n : ℕ) (couple : Bor D × Bor D) (digest : D)
    → AreOfFirst (of_couple hash) (map (lent_couple numbers) couples) (map numbers digests)
    → n < length digests → couple ≡ get_or couples n couple → digest ≡ get_or digests n digest
    → hash (numbers couple.0.now) (numbers couple.1.now) ≡ Ok (numbers digest)
couple-at numbers hash couples digests n couple digest is inside at there =
    let fit = first-fit (of_couple hash) (map (lent_couple numbers) couples) (map numbers digests) is in
    let here : get_or (map (lent_couple numbers) couples) n (lent_couple numbers couple) ≡ lent_couple numbers couple =
    get_or-map (lent_couple numbers) couples n couple (lent_couple numbers couple)
    (omega (arith, inside, fit, length-map digests numbers, length-map couples (lent_couple numbers)))
    ∙ ap (lent_couple numbers) (sym at) in
    let own : get_or (map numbers digests) n (numbers digest) ≡ numbers digest =
    get_or-map numbers digests n digest (numbers digest) inside ∙ ap numbers (sym there) in
    ap (of_couple hash) (sym here)
    ∙ first-at (of_couple hash) (map (lent_couple numbers) couples) (map numbers digests) n (lent_couple numbers couple)
    (numbers digest) is (omega (arith, inside, length-map digests numbers))
    ∙ ap Ok own

-- the digest of a key and its value
pub entry-at : {D : Type 0} (numbers : D → Digest) (h : MapHashes) (entries : List (Key × Digest)) (digests : List D)
    (n : ℕ) (entry : Key × Digest) (digest : D) → AreHashedEntries numbers h entries digests → n < length entries
    → n < length digests → entry ≡ get_or entries n entry → digest ≡ get_or digests n digest
    → h.leaf entry.0 entry.1 ≡ Ok (numbers digest)
entry-at numbers h entries digests n entry digest is within inside at there =
    let seen = couple_seen itself in
    let here : get_or (map seen entries) n (seen entry) ≡ seen entry =
    get_or-map seen entries n entry (seen entry) within ∙ ap seen (sym at) in
    let own : get_or (map numbers digests) n (numbers digest) ≡ numbers digest =
    get_or-map numbers digests n digest (numbers digest) inside ∙ ap numbers (sym there) in
    ap (of_couple h.leaf) (sym here)
    ∙ first-at (of_couple h.leaf) (map seen entries) (map numbers digests) n (seen entry) (numbers digest) is
    (omega (arith, inside, length-map digests numbers))
    ∙ ap Ok own

-- what a call hashed of the first items
pub first-hashed : {A D Z : Type 0} (numbers : D → Digest) (hash : A → Outcome Digest) (items own : List A)
    (result : Outcome (Vec D Z)) → items ≡ own → HashesAhead numbers hash items result
    → IfOk result (λ made. AreOfFirst hash own (map numbers made.items))
first-hashed numbers hash items own (Ok made) same is =
    subst (λ xs. AreOfFirst hash xs (map numbers made.items)) same is
first-hashed numbers hash items own (Err error) same is = tt
