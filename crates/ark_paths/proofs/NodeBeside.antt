-- The digests of a proof beside nodes.
use Rattle.std.proofs.Common.{suc, ◌≡◌, ℕ, ◌+◌, ◌-◌, ◌<◌, List, [], ◌∷◌, ◌++◌, length, take, get_or, arith, ap, sym, ◌∙◌, inl, inr}
use Rattle.std.proofs.lemmas.Bool.{cases_lt}
use Rattle.std.proofs.lemmas.List.{get_or-drop, get_or-take, get_or_append_left, get_or_push}
use Rattle.ark_paths.specs.Nodes.{AreFirsts, AreAmongFirst, ArePaths, IsFoundBeside}
use Rattle.ark_paths.specs.Pair.{Digest}

-- the digests beside the nodes before one are found
abbrev pub AreFound : List ℕ → List (List Digest) → ℕ → List ℕ → ℕ → List Digest → Type 0
AreFound prefixes suffixes depth firsts node beside = (above : List (List Digest)) (count len : ℕ)
    → ArePaths above prefixes suffixes count len → AreAmongFirst count firsts
    → AreFirsts above prefixes (suc depth) firsts
    → (g : ℕ) → g < node → get_or beside g [] ≡ get_or (get_or above (get_or firsts g 0) []) depth []

pub found-more : (prefixes : List ℕ) (suffixes : List (List Digest)) (depth : ℕ) (firsts : List ℕ) (node : ℕ)
    (beside : List Digest) → length beside ≡ node → node < length firsts
    → AreFound prefixes suffixes depth firsts node beside → (digest : Digest)
    → IsFoundBeside (get_or prefixes (get_or firsts node 0) 0) (get_or suffixes (get_or firsts node 0) []) depth
    beside digest
    → AreFound prefixes suffixes depth firsts (node + 1) (beside ++ digest ∷ [])
found-more prefixes suffixes depth firsts node beside many below so digest is above count len paths inside nodes =
    λ g lt. elim (cases_lt g node) [
      | inl inner ↦
          get_or_append_left beside (digest ∷ []) [] g (omega (arith, inner, many))
          ∙ so above count len paths inside nodes g inner
      | inr outer ↦
          let here : g ≡ node = omega (arith, lt, outer) in
          rw here (get_or_push beside digest [] node many ∙ own is)
    ]
  where
    path : ℕ
    path = get_or firsts node 0

    own : IsFoundBeside (get_or prefixes (get_or firsts node 0) 0) (get_or suffixes (get_or firsts node 0) []) depth
        beside digest
        → digest ≡ get_or (get_or above (get_or firsts node 0) []) depth []
    own (inl (low, at, is)) =
        let path = get_or firsts node 0 in
        let prefix = get_or prefixes path 0 in
        let whole : prefix + (depth - prefix) ≡ depth = omega (arith, low) in
        is ∙ ap (λ (ds : List Digest). get_or ds (depth - prefix) []) (sym (paths.ends path (inside node below)))
        ∙ get_or-drop prefix (get_or above path []) (depth - prefix) []
        ∙ ap (λ (n : ℕ). get_or (get_or above path []) n []) whole
    own (inr (high, some, is)) =
        let last = length beside - 1 in
        let before : last < node = omega (arith, many, some) in
        let up : suc last ≡ node = omega (arith, many, some) in
        let same : take (suc depth) (get_or above (get_or firsts last 0) [])
        ≡ take (suc depth) (get_or above (get_or firsts node 0) []) =
        rw up at (nodes last (suc depth) (omega (arith, up, below)) (omega arith) (rw up (omega (arith, high)))) in
        is ∙ so above count len paths inside nodes last before
        ∙ sym (get_or-take (suc depth) (get_or above (get_or firsts last 0) []) depth [] (omega arith))
        ∙ ap (λ (ds : List Digest). get_or ds depth []) same
        ∙ get_or-take (suc depth) (get_or above (get_or firsts node 0) []) depth [] (omega arith)
