-- How many bytes the path of a tree has.
use Rattle.std.proofs.Common.{◌≡◌, ℕ, zero, suc, ◌+◌, ◌-◌, ◌*◌, ◌<◌, ◌^◌, List, [], ◌∷◌, ◌++◌, length, take, drop, map, get_or, nat_lt, Bool, true, false, if◌then◌else◌, ℤ, pos, w32, to_z, of_z, Result, Ok, Err, IfOk, arith, refl, sym, ap, subst, ◌∙◌, inl, inr}
use Rattle.std.proofs.Math.Nat.{pow-succ'}
use Rattle.std.proofs.lemmas.Bool.{ltb-true}
use Rattle.std.proofs.lemmas.List.{get_or-map, length-append, length-map}
use Rattle.std.specs.List.{flat_map}
use Rattle.ark_base.specs.Digits.{itself}
use Rattle.ark_base.specs.Outcome.{◌>>=◌}
use Rattle.ark_base.specs.Laws.Numbers.{length-word}
use Rattle.ark_base.specs.Spelling.{word}
use Rattle.ark_paths.specs.Index.{IsTreeSize, bit_at, log2, neighbour}
use Rattle.ark_paths.specs.Pair.{Digest}
use Rattle.ark_paths.specs.Root.{place}
use Rattle.ark_paths.specs.Tree.{halves_beside, path_in, root_digest}
use Rattle.ark_paths.proofs.Logs.{log2-pow}
use Rattle.ark_paths.proofs.PlaceLemmas.{neighbour-inside}
use Rattle.paxidore_calls.specs.Answer.{GivesCode, Hands, only_if, path_of_leaves, refusal_code, tree_leaves_in, written_code}
use Rattle.paxidore_calls.specs.Hashing.{Hashing, bytes_of_path, node_pair, tree_over}
use Rattle.paxidore_calls.specs.declared.refused.Refused.{Refused}
use Rattle.paxidore_calls.specs.declared.refused.Refused.TheVariants.{Index, Memory, Room}
use Rattle.paxidore_calls.proofs.Answering.{refusal-no}
use Rattle.paxidore_calls.proofs.Parts.{leaves-fit}
use Rattle.paxidore_calls.proofs.TreeLemmas.{place-node}

-- a path of a tree of this size
abbrev pub path_bytes : ℕ → ℕ
path_bytes size = 16 + 32 * log2 size

abbrev AreLong : ℕ → List Digest → Type 0
AreLong count digests = (length digests ≡ count) × (length (flat_map itself digests) ≡ 32 * count)

AreLong-more : (count : ℕ) (d : Digest) (digests : List Digest) → length d ≡ 32 → AreLong count digests
    → AreLong (suc count) (d ∷ digests)
AreLong-more count d digests long so =
    (ap suc so.0, length-append d (flat_map itself digests) ∙ omega (arith, long, so.1))

AreLong-either : (b : Bool) (count : ℕ) (first second : List Digest) → AreLong count first → AreLong count second
    → AreLong count (if b then first else second)
AreLong-either true count first second of_first of_second = of_first
AreLong-either false count first second of_first of_second = of_second

module _ (h : Hashing) (leaf-long : (leaf : List ℕ) → length (h.leaf_hash leaf) ≡ 32)
    (node-long : (left right : Digest) → length (h.node left right) ≡ 32) where
  place-long : (m : ℕ) (digests : List Digest) → length (root_digest (place (node_pair h) m digests)) ≡ 32
  place-long zero digests = node-long (get_or digests 0 []) (get_or digests 1 [])
  place-long (suc m) digests =
      let left = place-node h m (take (2 ^ suc m) digests) in
      let right = place-node h m (drop (2 ^ suc m) digests) in
      rw (left.1, right.1) (node-long left.0 right.0)

  halves-long : (m i : ℕ) (digests : List Digest) → AreLong m (halves_beside (node_pair h) m i digests)
  halves-long zero i digests = (refl, refl)
  halves-long (suc m) i digests =
      let left = take (2 ^ suc m) digests in
      let right = drop (2 ^ suc m) digests in
      AreLong-either (bit_at i (suc m)) (suc m)
      (root_digest (place (node_pair h) m left) ∷ halves_beside (node_pair h) m i right)
      (root_digest (place (node_pair h) m right) ∷ halves_beside (node_pair h) m i left)
      (AreLong-more m _ _ (place-long m left) (halves-long m i right))
      (AreLong-more m _ _ (place-long m right) (halves-long m i left))

  -- the bytes of the path of an index
  own-long : (xs : List (List ℕ)) (index : ℕ) → IsTreeSize (length xs) → index < length xs
      → length (bytes_of_path (path_in (tree_over h xs) index)) ≡ path_bytes (length xs)
  own-long xs index (k, power) below =
      let digests = map h.leaf_hash xs in
      let count : length digests ≡ length xs = length-map xs h.leaf_hash in
      let log : log2 (length xs) ≡ suc k = ap log2 power ∙ log2-pow (suc k) in
      let levels : log2 (length digests) - 1 ≡ k = ap (λ (n : ℕ). log2 n - 1) count ∙ omega (arith, log) in
      let twice = pow-succ' 2 k in
      let beside : neighbour index < length xs =
      subst (λ (n : ℕ). neighbour index < n) (sym (power ∙ twice))
      (neighbour-inside index (2 ^ k) (omega (arith, below, power, twice))) in
      let sibling : length (get_or digests (neighbour index) []) ≡ 32 =
      ap length (get_or-map h.leaf_hash xs (neighbour index) [] [] beside) ∙ leaf-long _ in
      let above = halves-long (log2 (length digests) - 1) index digests in
      let halves = halves_beside (node_pair h) (log2 (length digests) - 1) index digests in
      let listed = word (length halves) ++ flat_map itself halves in
      let whole = length-append (get_or digests (neighbour index) []) (listed ++ word index) in
      let behind = length-append listed (word index) in
      let list = length-append (word (length halves)) (flat_map itself halves) in
      let first = length-word (length halves) in
      let last = length-word index in
      whole ∙ omega (arith, sibling, behind, list, first, last, above.1, levels, log)

  -- the path of an index in the tree above some leaves, where there is one
  path-long : (leaves lengths : List ℕ) (index : ℕ)
      → IfOk (path_of_leaves h leaves lengths index) (λ bytes. length bytes ≡ path_bytes (length lengths))
  path-long leaves lengths index = by_leaves (tree_leaves_in leaves lengths) (leaves-fit leaves lengths)
    where
      by_index : (xs : List (List ℕ)) → length xs ≡ length lengths → IsTreeSize (length xs) → (below : Bool)
          → nat_lt index (length xs) ≡ below
          → IfOk (only_if below Index (Ok (bytes_of_path (path_in (tree_over h xs) index))))
          (λ bytes. length bytes ≡ path_bytes (length lengths))
      by_index xs count sized false is = tt
      by_index xs count sized true is =
          own-long xs index sized (ltb-true index (length xs) is) ∙ ap path_bytes count

      by_leaves : (leaves : Result (List (List ℕ)) Refused)
          → IfOk leaves (λ xs. (length xs ≡ length lengths) × IsTreeSize (length xs))
          → IfOk (leaves >>= λ xs. only_if (nat_lt index (length xs)) Index
          (Ok (bytes_of_path (path_in (tree_over h xs) index)))) (λ bytes. length bytes ≡ path_bytes (length lengths))
      by_leaves (Ok xs) fit = by_index xs fit.0 fit.1 (nat_lt index (length xs)) refl
      by_leaves (Err refused) fit = tt

  -- so many bytes are handed over
  pub path-counted : (leaves lengths : List ℕ) (index : ℕ) (before after : List ℕ) (count_before count_after : ℕ)
      (code : ℤ) → Hands (path_of_leaves h leaves lengths index) before after count_before count_after code
      → to_z w32 (of_z w32 code) ≡ pos 0 → count_after ≡ path_bytes (length lengths)
  path-counted leaves lengths index before after count_before count_after code hands is_zero =
      by_outcome (path_of_leaves h leaves lengths index) (path-long leaves lengths index) hands.right_code hands.counted
    where
      no : {A : Type 0} (refused : Refused) → code ≡ refusal_code refused → A
      no refused is = absurd (refusal-no refused (ap (λ (z : ℤ). to_z w32 (of_z w32 z)) (sym is) ∙ is_zero))

      by_room : (short : Bool) → code ≡ (if short then refusal_code Room else pos 0) → code ≡ pos 0
      by_room true is = no Room is
      by_room false is = is

      by_outcome : (outcome : Result (List ℕ) Refused) → IfOk outcome (λ bytes. length bytes ≡ path_bytes
          (length lengths)) → GivesCode (written_code outcome (length before)) code
          → (code ≡ pos 0 → IfOk outcome (λ bytes. count_after ≡ length bytes))
          → count_after ≡ path_bytes (length lengths)
      by_outcome (Ok bytes) long (inl is) counted =
          counted (by_room (nat_lt (length before) (length bytes)) is) ∙ long
      by_outcome (Ok bytes) long (inr is) counted = no Memory is
      by_outcome (Err refused) long (inl is) counted = no refused is
      by_outcome (Err refused) long (inr is) counted = no Memory is
