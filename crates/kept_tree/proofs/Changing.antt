-- A leaf digest is changed, and those above it from the lowest up.
use Rattle.std.proofs.Common.{◌≡◌, ◌≢◌, ℕ, zero, suc, ◌+◌, ◌-◌, ◌*◌, ◌/◌, ◌<◌, ◌≤◌, ◌^◌, Bool, true, false, List, [], length, drop, get_or, set, refl, sym, ap, subst, ◌∙◌, inl, inr, arith}
use Rattle.std.proofs.lemmas.Bool.{cases_lt}
use Rattle.std.proofs.lemmas.List.{ext_get_or, get_or-drop, get_or-set_other, get_or-set_same, length-drop, length-set}
use Rattle.std.proofs.lemmas.Nat.{pow-add}
use Rattle.std.proofs.lemmas.Slice.Eq.{bytes_eq-Decides}
use Rattle.std.proofs.Math.Nat.{div-div-eq-div-mul, div-le_self, pow-suc}
use Rattle.ark_paths.specs.Pair.{Digest, digest_eq}
use Rattle.kept_tree.specs.KeptTree.{ChangesLeaf, KeepsTree, IsHashed, IsOnWay, PlainNode, Rehashes, kept_leaves}

-- ---- ways

half : (n k : ℕ) → n / 2 ^ suc k ≡ n / 2 ^ k / 2
half n k = ap (λ (w : ℕ). n / w) (pow-suc 2 k) ∙ sym (div-div-eq-div-mul n (2 ^ k) 2)

-- a part further up is no larger
lower : (n k c : ℕ) → n / 2 ^ (k + c) ≤ n / 2 ^ k
lower n k c =
    let apart : n / 2 ^ (k + c) ≡ n / 2 ^ k / 2 ^ c =
    ap (λ (w : ℕ). n / w) (pow-add 2 k c) ∙ sym (div-div-eq-div-mul n (2 ^ k) (2 ^ c)) in
    rw apart (div-le_self (n / 2 ^ k) (2 ^ c))

lower-by : (n k l : ℕ) → k ≤ l → n / 2 ^ l ≤ n / 2 ^ k
lower-by n k l le = let e : k + (l - k) ≡ l = omega arith in
    subst (λ (j : ℕ). n / 2 ^ j ≤ n / 2 ^ k) e (lower n k (l - k))

on_way-low : (from i : ℕ) → IsOnWay from i → i ≤ from
on_way-low from i (k, is) = let le = div-le_self (from + 1) (2 ^ k) in omega arith

-- the place above one on the way
pub on_way-up : (from place : ℕ) → 0 < place → IsOnWay from place → IsOnWay from ((place - 1) / 2)
on_way-up from place some (k, is) = (suc k, let e = half (from + 1) k in omega arith)

-- between it and the one below it there is none
on_way-next : (from place i : ℕ) → 0 < place → IsOnWay from place → IsOnWay from i → (place - 1) / 2 < i → place ≤ i
on_way-next from place i some (k, is) (l, at) more = elim (cases_lt k l) [
  | inl lt ↦
      let le = lower-by (from + 1) (suc k) l (omega arith) in
      let e = half (from + 1) k in
      absurd (omega arith)
  | inr ge ↦ let le = lower-by (from + 1) l k ge in omega arith
]

-- ---- as it is written

-- The digests from the leaf's place up to this one are written.
pub record ChangesUpTo (node : PlainNode) (old now : List Digest) (from place : ℕ) (digest : Digest) : Type 0 where
  pub long : length now ≡ length old
  pub leaf : get_or now from [] ≡ digest
  pub on_way : IsOnWay from place
  pub way : (i : ℕ) → i < length old / 2 → place ≤ i → IsOnWay from i → IsHashed node now i
  pub others : (i : ℕ) → (IsOnWay from i → ⊥) → get_or now i [] ≡ get_or old i []

module _ (node : PlainNode) (old : List Digest) (from : ℕ) (digest : Digest) where
  pub changes-more : (now new : List Digest) (place : ℕ) → 0 < place → ChangesUpTo node old now from place digest
      → Rehashes node ((place - 1) / 2) 1 now new → ChangesUpTo node old new from ((place - 1) / 2) digest
  changes-more now new place some so step =
      let q = (place - 1) / 2 in
      let low : place ≤ from = on_way-low from place so.on_way in
      let up : IsOnWay from q = on_way-up from place some so.on_way in
      record {
        long = step.long ∙ so.long;
        leaf = step.others from (inr (omega arith)) ∙ so.leaf;
        on_way = up;
        way = λ i below above on. elim (cases_lt q i) [
          | inl more ↦
              let past : place ≤ i = on_way-next from place i some so.on_way on more in
              let own : get_or new i [] ≡ get_or now i [] = step.others i (inr (omega arith)) in
              let left : get_or new (2 * i + 1) [] ≡ get_or now (2 * i + 1) [] =
              step.others (2 * i + 1) (inr (omega arith)) in
              let right : get_or new (2 * i + 2) [] ≡ get_or now (2 * i + 2) [] =
              step.others (2 * i + 2) (inr (omega arith)) in
              own ∙ so.way i below past on ∙ rw (left, right) refl
          | inr le ↦ step.hashed i above (omega arith)
        ];
        others = λ i apart. elim (cases_lt i q) [
          | inl lt ↦ step.others i (inl lt) ∙ so.others i apart
          | inr ge ↦ elim (cases_lt q i) [
            | inl gt ↦ step.others i (inr (omega arith)) ∙ so.others i apart
            | inr le ↦ let same : q ≡ i = omega arith in absurd (apart (subst (IsOnWay from) same up))
          ]
        ];
      }

pub changes-all : (node : PlainNode) (old now : List Digest) (from place index : ℕ) (digest : Digest)
    → from ≡ length old / 2 + index → place ≤ 0 → ChangesUpTo node old now from place digest
    → ChangesLeaf node old now index digest
changes-all node old now from place index digest at top so = record {
  long = so.long;
  leaf = rw (← at) so.leaf;
  way = λ i below on. so.way i below (omega arith) (subst (λ (f : ℕ). IsOnWay f i) (sym at) on);
  others = λ i apart. so.others i (λ on. apart (subst (λ (f : ℕ). IsOnWay f i) at on));
}

-- ---- of a tree

pub same_or : (a b : Digest) → ((a ≢ b) → ⊥) → a ≡ b
same_or a b apart = by_test (digest_eq a b) refl
  where
    by_test : (test : Bool) → digest_eq a b ≡ test → a ≡ b
    by_test true is = (bytes_eq-Decides a b).0 is
    by_test false is = absurd (apart (λ same. let yes = (bytes_eq-Decides a b).1 same in absurd cc))

module _ (node : PlainNode) (old new leaves : List Digest) (index : ℕ) (digest : Digest)
    (changes : ChangesLeaf node old new index digest) (holds : KeepsTree node old leaves)
    (inside : index ≤ length old / 2) where
  abbrev from : ℕ
  from = length old / 2 + index

  sized : length leaves ≡ length old / 2 + 1
  sized = omega (arith, holds.count)

  -- no other leaf digest stands on the way
  leaf-apart : (j : ℕ) → j ≢ index → IsOnWay from (length old / 2 + j) → ⊥
  leaf-apart j other (zero, is) = let one : (from + 1) / 2 ^ 0 ≡ from + 1 = omega arith in absurd (omega arith)
  leaf-apart j other (suc k, is) =
      let le = lower-by (from + 1) 1 (suc k) (omega arith) in
      let e = half (from + 1) 0 in
      absurd (omega arith)

  leaf-read : (j : ℕ) → get_or (kept_leaves old) j [] ≡ get_or old (length old / 2 + j) []
  leaf-read j = get_or-drop (length old / 2) old j []

  leaf-changed : (j : ℕ) → get_or (drop (length old / 2) new) j [] ≡ get_or (set leaves index digest) j []
  leaf-changed j = get_or-drop (length old / 2) new j [] ∙ elim (cases_lt j index) [
    | inl lt ↦ apart (omega arith)
    | inr ge ↦ elim (cases_lt index j) [
      | inl gt ↦ apart (omega arith)
      | inr le ↦
          let same : j ≡ index = omega arith in
          rw same (changes.leaf ∙ sym (get_or-set_same leaves index digest [] (omega (arith, sized))))
    ]
  ]
    where
      apart : j ≢ index → get_or new (length old / 2 + j) [] ≡ get_or (set leaves index digest) j []
      apart other = changes.others (length old / 2 + j) (leaf-apart j other) ∙ sym (leaf-read j)
          ∙ ap (λ (ds : List Digest). get_or ds j []) holds.last ∙ sym (get_or-set_other leaves index j digest [] other)

  -- the parent of a place on the way is on it
  pub changes-tree : KeepsTree node new (set leaves index digest)
  changes-tree = record {
    size = rw (length-set leaves index digest) holds.size;
    count = rw (changes.long, length-set leaves index digest) holds.count;
    last = rw changes.long (ext_get_or [] (drop (length old / 2) new) (set leaves index digest)
        (omega (arith, length-drop (length old / 2) new, changes.long, length-set leaves index digest, sized))
        (λ j below. leaf-changed j));
    hashed = λ i below. let under : i < length old / 2 = rw changes.long at below in same_or _ _
        (λ differ. differ (kept i under (λ on. differ (changes.way i under on))));
  }
    where
      child : (i c : ℕ) → IsOnWay from c → (c - 1) / 2 ≡ i → 0 < c → IsOnWay from i
      child i c on is some = subst (IsOnWay from) is (on_way-up from c some on)

      kept : (i : ℕ) → i < length old / 2 → (IsOnWay from i → ⊥) → IsHashed node new i
      kept i under apart =
          let own : get_or new i [] ≡ get_or old i [] = changes.others i apart in
          let left : get_or new (2 * i + 1) [] ≡ get_or old (2 * i + 1) [] =
          changes.others (2 * i + 1) (λ on. apart (child i (2 * i + 1) on (omega arith) (omega arith))) in
          let right : get_or new (2 * i + 2) [] ≡ get_or old (2 * i + 2) [] =
          changes.others (2 * i + 2) (λ on. apart (child i (2 * i + 2) on (omega arith) (omega arith))) in
          own ∙ holds.hashed i under ∙ rw (left, right) refl
