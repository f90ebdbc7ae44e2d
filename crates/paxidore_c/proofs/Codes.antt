-- What codes tell of answers.
use Rattle.std.proofs.Common.{◌≡◌, ◌⊎◌, ℤ, pos, w32, to_z, of_z, Bool, true, false, List, [], ◌∷◌, length, map, nat_lt, ℕ, Result, Ok, Err, IfOk, refl, sym, subst, ap, ◌∙◌, inl, inr}
use Rattle.std.proofs.lemmas.List.{map-id}
use Rattle.std.proofs.lemmas.Simd.{map-map}
use Rattle.ark_base.specs.Outcome.{Outcome, Answers}
use Rattle.ark_base.specs.Reading.{Reading}
use Rattle.ark_paths.specs.MultiPath.{MultiWay}
use Rattle.ark_paths.specs.Pair.{Digest, Hashes}
use Rattle.ark_paths.specs.Path.{Way}
use Rattle.ark_paths.specs.Received.{ShowsLeaf, ShowsLeaves, StandInTurn, received_multi_verdict, received_verdict}
use Rattle.ark_paths.specs.Index.{is_tree_size}
use Rattle.paxidore_calls.specs.Answer.{GivesCode, all_shown, are_indexes, done_code, leaves_for, refusal_code, refused_of, refusing, results_of, shown, verdict_code}
use Rattle.paxidore_calls.proofs.Answering.{refusal-no, zero-says}
use Rattle.paxidore_calls.specs.Hashing.{Hashing, hashes_by, hashes_of, read_path, read_multi_path}
use Rattle.paxidore_calls.specs.declared.refused.Refused.{Refused}
use Rattle.paxidore_calls.specs.declared.refused.Refused.TheVariants.{Memory, Truncated, Invalid, Height, Size, Lengths, Count, Index, Room, Hidden, NoPolicy, BadSignature, Unsigned, OtherOrigin, Other}

-- a call that answers 0 in 32 bits answers 0
pub done-zero : {A : Type 0} (outcome : Result A Refused) (code : ℤ) → GivesCode (done_code outcome) code → to_z w32
    (of_z w32 code) ≡ pos 0 → code ≡ pos 0
done-zero (Ok value) code (inl is) zero = is
done-zero (Ok value) code (inr is) zero = absurd (refusal-no Memory (rw is at zero))
done-zero (Err refused) code (inl is) zero = absurd (refusal-no refused (rw is at zero))
done-zero (Err refused) code (inr is) zero = absurd (refusal-no Memory (rw is at zero))

-- a code is what it is in 32 bits
pub verdict-fits : (verdict : Result Bool Refused) → to_z w32 (of_z w32 (verdict_code verdict)) ≡ verdict_code verdict
verdict-fits (Ok true) = refl
verdict-fits (Ok false) = refl
verdict-fits (Err Memory) = refl
verdict-fits (Err Truncated) = refl
verdict-fits (Err Invalid) = refl
verdict-fits (Err Height) = refl
verdict-fits (Err Size) = refl
verdict-fits (Err Lengths) = refl
verdict-fits (Err Count) = refl
verdict-fits (Err Index) = refl
verdict-fits (Err Room) = refl
verdict-fits (Err Hidden) = refl
verdict-fits (Err NoPolicy) = refl
verdict-fits (Err BadSignature) = refl
verdict-fits (Err Unsigned) = refl
verdict-fits (Err OtherOrigin) = refl
verdict-fits (Err Other) = refl

results-same : (leaves : Result (List (List ℕ)) Refused) → results_of (λ leaf. leaf) leaves ≡ leaves
results-same (Ok xs) = ap Ok (map-id xs)
results-same (Err refused) = refl

-- what an outcome gives, where the call answers it or memory was refused
pub answers-give : (outcome result : Outcome Bool) → Answers outcome result
    → GivesCode (verdict_code (refusing outcome))
    (verdict_code (refusing result))
answers-give outcome (Ok accepted) is = inl (ap (λ o. verdict_code (refusing o)) (sym is))
answers-give outcome (Err e) (inl memory) = inr (ap (λ e. refusal_code (refused_of e)) memory)
answers-give outcome (Err e) (inr refused) = inl (ap (λ o. verdict_code (refusing o)) (sym refused))

-- ---- leaves that are held as things of another type

module _ (h : Hashing) {A : Type 0} (bytes_of : A → List ℕ) (hashes : Hashes A) (are : hashes ≡ hashes_by bytes_of h)
    (root : Digest) (size : ℕ) where
  -- What an accepted path shows, where the answer is 0.
  pub shows-zero : (index : ℕ) (path : List ℕ) (held : A) (leaf : List ℕ) → bytes_of held ≡ leaf
      → (result : Outcome Bool)
      → IfOk result (λ accepted. accepted ≡ true → ShowsLeaf hashes root size index held (read_path path))
      → (code : ℤ) → code ≡ verdict_code (refusing result) → to_z w32 (of_z w32 code) ≡ pos 0 → ShowsLeaf (hashes_of h)
      root size index leaf (read_path path)
  shows-zero index path held leaf same verdict shows code is zero =
      let P : Hashes A → Type 0 = λ hs. ShowsLeaf hs root size index held (read_path path) in
      let Q : List ℕ → Type 0 = λ l. ShowsLeaf (hashes_of h) root size index l (read_path path) in
      subst Q same (subst P are (zero-says verdict shows code is zero))

  -- What a path gives, where a tree has the size and the index is below it.
  pub shown-gives : (index : ℕ) (path : List ℕ) (held : A) (leaf : List ℕ) → bytes_of held ≡ leaf
      → is_tree_size size ≡ true → nat_lt index size ≡ true → (result : Outcome Bool)
      → Answers (received_verdict hashes root size index held (read_path path)) result
      → (code : ℤ) → code ≡ verdict_code (refusing result) → GivesCode
      (verdict_code (shown h root size index leaf path))
      (to_z w32 (of_z w32 code))
  shown-gives index path held leaf same sized inside result answers code is =
      let P : Hashes A → Type 0 = λ hs. Answers (received_verdict hs root size index held (read_path path)) result in
      let Q : List ℕ → Type 0 =
      λ l. GivesCode (verdict_code (shown h root size index l path)) (to_z w32 (of_z w32 code)) in
      let known : shown h root size index (bytes_of held) path ≡ refusing (received_verdict (hashes_by bytes_of h) root
      size index held (read_path path)) = rw (sized, inside) refl in
      subst Q same (rw (known, is, verdict-fits (refusing result)) (answers-give (received_verdict
      (hashes_by bytes_of h) root size index held (read_path path)) result (subst P are answers)))

  stand-held : (held : List A) (ways : List Way) → StandInTurn (hashes_by bytes_of h) root size held ways
      → StandInTurn (hashes_of h) root size (map bytes_of held) ways
  stand-held held [] stand = tt
  stand-held [] (way ∷ ways) stand = stand
  stand-held (x ∷ held) (way ∷ ways) stand = (stand.0, stand-held held ways stand.1)

  shows-held : (indexes : List ℕ) (held : List A) (reading : Reading MultiWay) → ShowsLeaves (hashes_by bytes_of h) root
      size indexes held reading → ShowsLeaves (hashes_of h) root size indexes (map bytes_of held) reading
  shows-held indexes held reading shows = record {
    proof = shows.proof;
    read = shows.read;
    ways = shows.ways;
    decoded =
        shows.decoded;
    places = shows.places;
    stand = stand-held held shows.ways shows.stand;
  }

  verdict-held : (indexes : List ℕ) (held : List A) (reading : Reading MultiWay) → received_multi_verdict (hashes_of h)
      root size indexes (map bytes_of held) reading ≡ received_multi_verdict (hashes_by bytes_of h) root size indexes
      held reading
  verdict-held indexes held reading = rw (map-map (hashes_of h).leaf bytes_of held) refl

  module _ (indexes bytes lengths proof : List ℕ) (held : List A) (given : results_of (λ leaf. leaf)
      (leaves_for size (length indexes) bytes lengths) ≡ Ok (map bytes_of held)) where
    are-held : leaves_for size (length indexes) bytes lengths ≡ Ok (map bytes_of held)
    are-held = sym (results-same (leaves_for size (length indexes) bytes lengths)) ∙ given

    pub multi-shows-zero : (result : Outcome Bool) → IfOk result (λ accepted. accepted ≡ true → ShowsLeaves hashes root
        size indexes held (read_multi_path proof))
        → (code : ℤ) → code ≡ verdict_code (refusing result) → to_z w32 (of_z w32 code) ≡ pos 0
        → IfOk (leaves_for size (length indexes) bytes lengths) (λ xs. ShowsLeaves (hashes_of h) root size indexes xs
        (read_multi_path proof))
    multi-shows-zero result shows code is zero =
        let P : Hashes A → Type 0 = λ hs. ShowsLeaves hs root size indexes held (read_multi_path proof) in
        rw are-held (shows-held indexes held (read_multi_path proof)
        (subst P are (zero-says result shows code is zero)))

    pub all-shown-gives : are_indexes size indexes ≡ true → (result : Outcome Bool)
        → Answers (received_multi_verdict hashes root size indexes held (read_multi_path proof)) result
        → (code : ℤ) → code ≡ verdict_code (refusing result) → GivesCode
        (verdict_code (all_shown h root size indexes bytes
        lengths proof)) (to_z w32 (of_z w32 code))
    all-shown-gives inside result answers code is =
        let P : Hashes A → Type 0 =
        λ hs. Answers (received_multi_verdict hs root size indexes held (read_multi_path proof)) result in
        let known : all_shown h root size indexes bytes lengths proof ≡ refusing (received_multi_verdict
        (hashes_by bytes_of h) root size indexes held (read_multi_path proof)) = rw (are-held, inside)
        (ap refusing (verdict-held indexes held (read_multi_path proof))) in
        rw (known, is, verdict-fits (refusing result)) (answers-give (received_multi_verdict (hashes_by bytes_of h) root
        size indexes held (read_multi_path proof)) result (subst P are answers))

    pub no-index-gives : are_indexes size indexes ≡ false → (code : ℤ) → code ≡ refusal_code Index
        → GivesCode (verdict_code (all_shown h root size indexes bytes lengths proof)) (to_z w32 (of_z w32 code))
    no-index-gives none code is = inl (rw (is, are-held, none) refl)

-- leaves that are refused
pub none-shown-gives : (h : Hashing) (root : Digest) (size : ℕ) (indexes bytes lengths proof : List ℕ)
    (refused : Refused) → (refused ≡ Memory) ⊎ (results_of (λ leaf. leaf) (leaves_for size (length indexes) bytes
    lengths) ≡ Err refused)
    → (code : ℤ) → code ≡ refusal_code refused → GivesCode (verdict_code (all_shown h root size indexes bytes lengths
    proof)) (to_z w32 (of_z w32 code))
none-shown-gives h root size indexes bytes lengths proof refused (inl memory) code is =
    inr (rw (is, verdict-fits (Err refused), memory) refl)
none-shown-gives h root size indexes bytes lengths proof refused (inr are) code is =
    let none : leaves_for size (length indexes) bytes lengths ≡ Err refused =
    sym (results-same (leaves_for size (length indexes) bytes lengths)) ∙ are in
    inl (rw (is, verdict-fits (Err refused), none) refl)
