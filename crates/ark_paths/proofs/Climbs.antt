-- The way up along a path, digest by digest.
use Rattle.std.proofs.Common.{zero, suc, ◌≡◌, ℕ, ◌+◌, ◌-◌, ◌<◌, List, [], ◌∷◌, length, map, drop, get_or, Ok, Err, arith, length-drop, ◌∙◌, ap, sym}
use Rattle.std.proofs.lemmas.List.{drop_more, get_or-map, length-map}
use Rattle.ark_base.specs.declared.error.Error.{Error}
use Rattle.ark_base.specs.Outcome.{Outcome}
use Rattle.ark_paths.specs.Index.{bit_at}
use Rattle.ark_paths.specs.Pair.{Digest, hash_in_order}
use Rattle.ark_paths.specs.Path.{climb}

-- the digest of the item beside the way at a level
pub beside-at : {A : Type 0} (view : A → Digest) (xs : List A) (k level : ℕ) (x : A) → level < length xs
    → k ≡ length xs - suc level → x ≡ get_or xs k x
    → view x ≡ get_or (map view xs) (length (map view xs) - suc level) []
beside-at view xs k level x below at is =
    let here : length (map view xs) - suc level ≡ k = omega (arith, at, length-map xs view) in
    rw here (ap view is ∙ sym (get_or-map view xs k x [] (omega (arith, at, below))))

module _ (hash : Digest → Digest → Outcome Digest) (index : ℕ) (digests : List Digest) (lowest : Digest) where
  -- what those from place k on make
  abbrev pub so_far : ℕ → Outcome Digest
  so_far k = climb hash index (drop k digests) lowest

  -- one level up from the leaves
  pub so_far-up : (level : ℕ) (current sibling : Digest) → level < length digests
      → sibling ≡ get_or digests (length digests - suc level) [] → so_far (length digests - level) ≡ Ok current
      → so_far (length digests - suc level) ≡ hash_in_order hash (bit_at index (suc level)) current sibling
  so_far-up level current sibling below is so =
      let k = length digests - suc level in
      let under : k + 1 ≡ length digests - level = omega arith in
      let here : drop k digests ≡ get_or digests k [] ∷ drop (k + 1) digests = drop_more digests k [] (omega arith) in
      let bit : suc (length (drop (length digests - level) digests)) ≡ suc level =
      simp length-drop (omega (arith, below)) in
      rw (is, here, under, so, bit)

-- a refusal further down is that of the whole
pub so_far-refused : (hash : Digest → Digest → Outcome Digest) (index : ℕ) (digests : List Digest) (lowest : Digest)
    (k : ℕ) (e : Error) → so_far hash index digests lowest k ≡ Err e → climb hash index digests lowest ≡ Err e
so_far-refused hash index digests lowest zero e refused = refused
so_far-refused hash index [] lowest (suc k) e refused = refused
so_far-refused hash index (x ∷ xs) lowest (suc k) e refused =
    rw (so_far-refused hash index xs lowest k e refused)
