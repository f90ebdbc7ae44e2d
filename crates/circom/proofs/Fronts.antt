-- Frontiers and roots of digests of which a hash refuses no pair.
use Rattle.std.proofs.Common.{zero, suc, ◌≡◌, ℕ, ◌-◌, ◌%◌, ◌<◌, ◌≤◌, ◌^◌, List, [], ◌∷◌, ◌++◌, length, map, take, drop, get_or, Bool, true, Ok, Err, refl, sym, ap, subst, ◌∙◌, arith, inl, inr}
use Rattle.std.proofs.lemmas.Bool.{cases_lt, lt-ltb, le-ltb}
use Rattle.std.proofs.lemmas.List.{length-append, length-drop, length-map, length-take}
use Rattle.std.specs.Prelude.{IfErr}
use Rattle.ark_base.specs.Outcome.{AnswersBy, Outcome}
use Rattle.ark_base.specs.declared.error.Error.{Error}
use Rattle.ark_base.specs.declared.error.Error.TheVariants.{OutOfMemory}
use Rattle.ark_base.specs.Laws.Steps.{done_injective}
use Rattle.ark_paths.specs.Pair.{Digest}
use Rattle.merkle_log.specs.Frontier.{complete_pairs, frontier, peak_back, IsFrontier, RefusesPeak}
use Rattle.merkle_log.specs.Log.{NodeHash, merkle_tree_hash}
use Rattle.merkle_log.specs.Trees.{tree_hash}
use Rattle.merkle_log.specs.Walk.{joined}
use Rattle.merkle_log.proofs.Lasts.{Node, node_rows}
use Rattle.merkle_log.proofs.Peaks.{frontier-even, frontier-odd}
use Rattle.merkle_log.proofs.Verdicts.{pow_above}
use Rattle.circom.proofs.Closed.{IsClosed, Pass, pass-at}

-- the frontier of no digests
pub frontier-none : (hash : NodeHash) → IsFrontier hash [] 0 []
frontier-none hash = record { size_is = refl; peaks_are = λ empty. refl }

-- The hash of no digests is that of no list that has one.
any-empty : {A : Type 0} (join : A → A → A) (first second : A) (k : ℕ) (xs : List A) → 0 < length xs
    → tree_hash join first k xs ≡ tree_hash join second k xs
any-empty join first second zero [] some = absurd (omega arith)
any-empty join first second zero (x ∷ xs) some = refl
any-empty join first second (suc j) xs some =
    elim (cases_lt (2 ^ j) (length xs)) [
      | inl more ↦
          let front = any-empty join first second j (take (2 ^ j) xs)
          (omega (arith, length-take (2 ^ j) xs, some, pow_above j)) in
          let back = any-empty join first second j (drop (2 ^ j) xs) (omega (arith, length-drop (2 ^ j) xs, more)) in
          rw (lt-ltb (2 ^ j) (length xs) more)
          (ap (λ t. join t (tree_hash join first j (drop (2 ^ j) xs))) front
          ∙ ap (join (tree_hash join second j (take (2 ^ j) xs))) back)
      | inr whole ↦ rw (le-ltb (2 ^ j) (length xs) whole) (any-empty join first second j xs some)
    ]

pub root-any_empty : (hash : NodeHash) (first second : Digest) (digests : List Digest) → 0 < length digests
    → merkle_tree_hash hash first digests ≡ merkle_tree_hash hash second digests
root-any_empty hash first second digests some =
    any-empty (joined hash) (Ok first) (Ok second) (length digests) (node_rows digests)
    (omega (arith, some, length-map {B = Node} digests Ok))

-- a digest that passes a test
abbrev Passes : (Digest → Bool) → Node → Type 0
Passes test (Ok digest) = test digest ≡ true
Passes test (Err error) = ⊥

abbrev AllPass : (Digest → Bool) → List Node → Type 0
AllPass test [] = Unit {0}
AllPass test (x ∷ xs) = Passes test x × AllPass test xs

all-nodes : (test : Digest → Bool) (xs : List Digest) → Pass test xs → AllPass test (node_rows xs)
all-nodes test [] all = tt
all-nodes test (x ∷ xs) all = (all.0, all-nodes test xs all.1)

all-digests : (test : Digest → Bool) (xs : List Digest) → AllPass test (node_rows xs) → Pass test xs
all-digests test [] all = tt
all-digests test (x ∷ xs) all = (all.0, all-digests test xs all.1)

all-at : (test : Digest → Bool) (none : Node) (xs : List Node) (i : ℕ) → AllPass test xs → i < length xs
    → Passes test (get_or xs i none)
all-at test none [] i all below = absurd (omega arith)
all-at test none (x ∷ xs) zero all below = all.0
all-at test none (x ∷ xs) (suc i) all below = all-at test none xs i all.1 (omega arith)

all-append : (test : Digest → Bool) (xs ys : List Node) → AllPass test xs → AllPass test ys → AllPass test (xs ++ ys)
all-append test [] ys first second = second
all-append test (x ∷ xs) ys first second = (first.0, all-append test xs ys first.1 second)

all-take : (test : Digest → Bool) (n : ℕ) (xs : List Node) → AllPass test xs → AllPass test (take n xs)
all-take test zero xs all = tt
all-take test (suc n) [] all = tt
all-take test (suc n) (x ∷ xs) all = (all.0, all-take test n xs all.1)

all-drop : (test : Digest → Bool) (n : ℕ) (xs : List Node) → AllPass test xs → AllPass test (drop n xs)
all-drop test zero xs all = all
all-drop test (suc n) [] all = tt
all-drop test (suc n) (x ∷ xs) all = all-drop test n xs all.1

module _ {hash : NodeHash} {test : Digest → Bool} (closed : IsClosed hash test) where
  joined-passes : (a b : Node) → Passes test a → Passes test b → Passes test (joined hash a b)
  joined-passes (Ok a) (Ok b) first second =
      let made = closed.hashed a b first second in subst (Passes test) (sym made.1) made.2
  joined-passes (Ok a) (Err error) first second = absurd second
  joined-passes (Err error) b first second = absurd first

  pairs-pass : (row : List Node) → AllPass test row → AllPass test (complete_pairs (joined hash) row)
  pairs-pass [] all = tt
  pairs-pass (a ∷ []) all = tt
  pairs-pass (a ∷ b ∷ rest) all = (joined-passes a b all.0 all.1.0, pairs-pass rest all.1.1)

  frontier-passes : (none : Node) (k : ℕ) (row : List Node) → AllPass test row
      → AllPass test (frontier (joined hash) none k row)
  frontier-passes none zero row all = tt
  frontier-passes none (suc k) row all =
      let up = frontier-passes none k (complete_pairs (joined hash) row) (pairs-pass row all) in
      elim (cases_lt (length row % 2) 1) [
        | inl even ↦ subst (AllPass test) (sym (frontier-even (joined hash) none k row (omega (arith, even)))) up
        | inr odd ↦
            subst (AllPass test) (sym (frontier-odd (joined hash) none k row (omega (arith, odd))))
            (all-append test _ _ up (all-at test none row (length row - 1) all (omega (arith, odd)), tt))
      ]

  tree-passes : (none : Node) (k : ℕ) (row : List Node) → 0 < length row → AllPass test row
      → Passes test (tree_hash (joined hash) none k row)
  tree-passes none zero row some all = all-at test none row 0 all some
  tree-passes none (suc j) row some all =
      elim (cases_lt (2 ^ j) (length row)) [
        | inl more ↦
            let front = tree-passes none j (take (2 ^ j) row)
            (omega (arith, length-take (2 ^ j) row, some, pow_above j)) (all-take test (2 ^ j) row all) in
            let back = tree-passes none j (drop (2 ^ j) row) (omega (arith, length-drop (2 ^ j) row, more))
            (all-drop test (2 ^ j) row all) in
            rw (lt-ltb (2 ^ j) (length row) more) (joined-passes _ _ front back)
        | inr whole ↦ rw (le-ltb (2 ^ j) (length row) whole) (tree-passes none j row some all)
      ]

  -- The roots of complete trees pass where all digests do.
  peaks-pass : (digests peaks : List Digest) (size : ℕ) → Pass test digests → IsFrontier hash digests size peaks
      → Pass test peaks
  peaks-pass digests peaks size all own =
      all-digests test peaks (subst (AllPass test) (own.peaks_are [])
      (frontier-passes (Ok []) (length digests) (node_rows digests) (all-nodes test digests all)))

  -- a list of an odd number of digests has such a root
  some-peak : (digests peaks : List Digest) (size : ℕ) → IsFrontier hash digests size peaks → size % 2 ≡ 1
      → 0 < length peaks
  some-peak digests peaks size own odd =
      let row = node_rows digests in
      let long : length row ≡ length digests = length-map {B = Node} digests Ok in
      let levels : suc (size - 1) ≡ length digests = omega (arith, odd, own.size_is) in
      let up = frontier (joined hash) (Ok []) (size - 1) (complete_pairs (joined hash) row) in
      let last = get_or row (length row - 1) (Ok []) in
      let is : map Ok peaks ≡ up ++ (last ∷ []) =
      sym (ap (λ k. frontier (joined hash) (Ok []) k row) levels ∙ own.peaks_are [])
      ∙ frontier-odd (joined hash) (Ok []) (size - 1) row (ap (λ n. n % 2) (long ∙ own.size_is) ∙ odd) in
      let count : length peaks ≡ length (up ++ (last ∷ [])) = sym (length-map {B = Node} peaks Ok) ∙ ap length is in
      omega (arith, count, length-append up (last ∷ []))

  -- Nothing is refused where a digest that passes is put behind such a list.
  pub no-peak : (digests peaks : List Digest) (size : ℕ) (digest : Digest) (error : Error) → Pass test digests
      → test digest ≡ true → IsFrontier hash digests size peaks → RefusesPeak hash size peaks digest error → ⊥
  no-peak digests peaks size digest error all own is refuses =
      ends (closed.hashed _ _ (last refuses.level) (made refuses.level (omega arith)))
    where
      some : 0 < length peaks
      some = some-peak digests peaks size is (refuses.odd 0 (omega arith))

      last : (k : ℕ) → test (peak_back peaks k) ≡ true
      last k = pass-at test peaks (length peaks - 1 - k) (peaks-pass digests peaks size all is) (omega (arith, some))

      made : (k : ℕ) → k ≤ refuses.level → test (get_or refuses.made k []) ≡ true
      made zero le = ap test refuses.first ∙ own
      made (suc k) le =
          let up = closed.hashed _ _ (last k) (made k (omega arith)) in
          let next = get_or refuses.made (suc k) [] in
          let same : up.0 ≡ next = done_injective {E = Error} up.0 next (sym up.1 ∙ refuses.hashed k (omega arith)) in
          sym (ap test same) ∙ up.2

      different : (digest : Digest) → Ok digest ≡ Err error → ⊥
      different digest is = cc

      ends : (digest : Digest) × (hash (peak_back peaks refuses.level) (get_or refuses.made refuses.level [])
          ≡ Ok digest) × (test digest ≡ true) → ⊥
      ends up = different up.0 (sym up.1 ∙ refuses.refused)

  -- The root of such digests is not refused.
  pub no-root-refusal : (empty : Digest) (digests : List Digest) (error : Error) → 0 < length digests
      → Pass test digests → merkle_tree_hash hash empty digests ≡ Err error → ⊥
  no-root-refusal empty digests error some all refused =
      subst (Passes test) refused (tree-passes (Ok empty) (length digests) (node_rows digests)
      (omega (arith, some, length-map {B = Node} digests Ok)) (all-nodes test digests all))

-- an answer that is never refused but for a lack of memory
pub only-memory : {A B : Type 0} (view : A → B) (outcome : Outcome B) (result : Outcome A)
    → AnswersBy view outcome result → ((error : Error) → outcome ≡ Err error → ⊥)
    → IfErr result (λ error. error ≡ OutOfMemory)
only-memory view outcome (Ok value) answers none = tt
only-memory view outcome (Err error) answers none = elim answers [
  | inl memory ↦ memory
  | inr refused ↦ absurd (none error refused)
]
