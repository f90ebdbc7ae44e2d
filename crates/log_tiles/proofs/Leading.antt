-- The root of a list, from the roots of the complete subtrees into which it falls, the smallest first.
use Rattle.std.proofs.Common.{suc, ◌≡◌, ℕ, ◌+◌, ◌-◌, ◌/◌, ◌%◌, ◌<◌, List, [], ◌∷◌, length, get_or, Ok, Option, Some, None, refl, ap, subst, inl, inr, arith}
use Rattle.std.proofs.lemmas.Bool.{cases_lt}
use Rattle.std.proofs.lemmas.List.{take_all}
use Rattle.ark_base.specs.Outcome.{Outcome}
use Rattle.ark_paths.specs.Pair.{Digest}
use Rattle.ark_trees.specs.Rfc6962.{node_hash, node_of}
use Rattle.merkle_log.specs.Log.{NodeHash, merkle_tree_hash}
use Rattle.merkle_log.specs.Stored.{IsStored}
use Rattle.merkle_log.specs.Walk.{index_up}
use Rattle.merkle_log.proofs.Edges.{whole-raised}
use Rattle.merkle_log.proofs.Lasts.{Node, last-end, last-first, last-next, last-up, raised, LastAt}
use Rattle.merkle_log.proofs.Tests.{if_even, if_odd}
use Rattle.log_store.proofs.Reading.{up-less}
use Rattle.log_tiles.specs.Audit.{with_rest, rows_over}
use Rattle.log_tiles.proofs.Trees.{length-rows_over, rows-stored}

-- A last value behind an even number of digests goes up as it is.
up-even : {hash : NodeHash} {rows : ℕ → List Digest} {empty : Digest} {level s : ℕ} {x : Node}
    {answer : Outcome Digest} → IsStored hash rows → LastAt hash rows empty level s x answer → s % 2 ≡ 0
    → LastAt hash rows empty (suc level) (s / 2) x answer
up-even {hash} {rows} {empty} {level} {s} {x} {answer} stored at even = elim (cases_lt 0 s) [
  | inl some ↦
      let same : raised hash (rows level) s x ≡ x = if_even s _ x even in
      subst (λ y. LastAt hash rows empty (suc level) (s / 2) y answer) same (last-up stored at some)
  | inr none ↦
      let here : s ≡ 0 = omega arith in
      let there : s / 2 ≡ 0 = omega arith in
      record {
        levels = at.levels;
        high = omega (arith, at.high);
        inside = omega arith;
        is = rw (there) (rw (here) at at.is);
      }
]

-- From a level on, with so many complete places there, what stands behind these leads to the root; if nothing does, the
-- last of these digests leads to it.
abbrev pub LeadsFrom : List Digest → Digest → ℕ → ℕ → Option Digest → Type 0
LeadsFrom leaves empty level left None = 0 < length leaves → (0 < left) × LastAt node_of (rows_over leaves) empty level
    (left - 1) (Ok (get_or (rows_over leaves level) (left - 1) [])) (merkle_tree_hash node_of empty leaves)
LeadsFrom leaves empty level left (Some last) =
    LastAt node_of (rows_over leaves) empty level left (Ok last) (merkle_tree_hash node_of empty leaves)

module _ (leaves : List Digest) (empty : Digest) where
  pub leads-first : (size : ℕ) → length leaves ≡ size → LeadsFrom leaves empty 0 size None
  leads-first size long some =
      let above : 0 < size = omega (arith, long) in (
        above,
        subst (λ all. LastAt node_of (rows_over leaves) empty 0 (size - 1) (Ok (get_or leaves (size - 1) []))
            (merkle_tree_hash node_of empty all)) (take_all size leaves (omega (arith, long)))
            (last-first node_of (rows_over leaves) empty size (get_or leaves (size - 1) []) above (omega
            (arith, long)) refl),
      )

  pub leads-odd : (level left : ℕ) (last : Option Digest) → left ≡ index_up level (length leaves) → left % 2 ≡ 1
      → LeadsFrom leaves empty level left last → LeadsFrom leaves empty (level + 1) (left / 2)
      (Some (with_rest (get_or (rows_over leaves level) (left - 1) []) last))
  leads-odd level left None is odd so =
      let some : 0 < length leaves = omega (arith, up-less level (length leaves)) in
      let half : (left - 1) / 2 ≡ left / 2 = omega arith in
      let up : suc level ≡ level + 1 = omega arith in
      rw (← up, ← half) (up-even (rows-stored leaves) (so some).1 (omega arith))
  leads-odd level left (Some last) is odd so =
      let peak = get_or (rows_over leaves level) (left - 1) [] in
      last-next (rows-stored leaves) so (omega arith) (level + 1) refl (Ok (node_hash peak last))
      (if_odd left (node_of peak last) (Ok last) odd)

  pub leads-even : (level left : ℕ) (last : Option Digest) → left ≡ index_up level (length leaves) → left % 2 ≡ 0
      → LeadsFrom leaves empty level left last → LeadsFrom leaves empty (level + 1) (left / 2) last
  leads-even level left None is even so = λ some.
      let at = so some in
      let half : (left - 1) / 2 ≡ left / 2 - 1 = omega (arith, at.0) in
      let below : left - 1 < length (rows_over leaves level) = omega (arith, at.0, length-rows_over leaves level) in (
        omega (arith, at.0),
        rw (← half) (last-next (rows-stored leaves) at.1 (omega (arith, at.0)) (level + 1) refl _
            (whole-raised (rows-stored leaves) level (left - 1) (omega (arith, at.0)) below)),
      )
  leads-even level left (Some last) is even so =
      let up : suc level ≡ level + 1 = omega arith in
      rw (← up) (up-even (rows-stored leaves) so even)

  pub leads-end : (level left : ℕ) (last : Digest) → left ≡ 0 → LeadsFrom leaves empty level left (Some last)
      → merkle_tree_hash node_of empty leaves ≡ Ok last
  leads-end level left last none so = last-end (rows-stored leaves) so none

  pub leads-none : (level left : ℕ) → left ≡ 0 → LeadsFrom leaves empty level left None
      → merkle_tree_hash node_of empty leaves ≡ Ok empty
  leads-none level left none so = elim (cases_lt 0 (length leaves)) [
    | inl some ↦ absurd (omega (arith, (so some).0))
    | inr nothing ↦ ap (merkle_tree_hash node_of empty) (no_leaves leaves (omega arith))
  ]
    where
      no_leaves : (leaves : List Digest) → length leaves ≡ 0 → leaves ≡ []
      no_leaves [] none = refl
      no_leaves (digest ∷ rest) none = absurd (omega arith)
