-- What a multi-proof that is accepted says of a list.
use Rattle.std.proofs.Common.{zero, suc, ◌≡◌, ℕ, ◌+◌, ◌*◌, ◌<◌, ◌^◌, ◌⊎◌, true, false, ◌&&◌, ◌==◌, List, [], ◌∷◌, ◌++◌, length, take, drop, get_or, Ok, arith, refl, ap, subst, sym, ◌∙◌, inl, inr}
use Rattle.std.proofs.lemmas.Bool.{cases_lt, cases_Bool, lt-ltb, le-ltb, and_parts, eqb-true, false≢true}
use Rattle.std.proofs.lemmas.List.{length-take-le, length-drop, length-map, take-append-drop, take-map, drop-map}
use Rattle.std.proofs.lemmas.Slice.Eq.{bytes_eq-Decides}
use Rattle.ark_base.specs.declared.error.Error.{Error}
use Rattle.ark_base.specs.Outcome.{Outcome, ◌>>=◌}
use Rattle.ark_base.specs.Laws.Steps.{bind_ok, done_injective}
use Rattle.ark_paths.specs.Pair.{Digest, digest_eq}
use Rattle.merkle_log.specs.Collision.{Collide, IsTreePair}
use Rattle.merkle_log.specs.Log.{NodeHash}
use Rattle.merkle_log.specs.Trees.{node}
use Rattle.merkle_log.specs.Walk.{joined}
use Rattle.merkle_log.specs.Multi.{Known, middle, count_below, count_around, digests_at, known_hash, are_multi_indexes, multi_length, has_form, known_verdict}
use Rattle.merkle_log.specs.MultiBind.{HashesPair, Own, InLeft, InRight, Alone, BindsDigests}
use Rattle.merkle_log.proofs.Above.{there, joined-ok}
use Rattle.merkle_log.proofs.TreePairs.{node-zero, same_pairs}
use Rattle.merkle_log.proofs.Verdicts.{same_digests, pow_above, refused}
use Rattle.merkle_log.proofs.MultiParts.{Within, within-left, within-right, within-alone, within-all, count-few, left-first, node-both, node-alone, node-top}

-- what is known, by its parts
abbrev pub knows : List ℕ → List Digest → List Digest → Known
knows indexes leaves proof = record { indexes = indexes; leaves = leaves; proof = proof }

pub halves-stand : (digests : List Digest) (count : ℕ) (indexes : List ℕ) (leaves : List Digest)
    → digests_at digests (take count indexes) ≡ take count leaves
    → digests_at digests (drop count indexes) ≡ drop count leaves → digests_at digests indexes ≡ leaves
halves-stand digests count indexes leaves front back =
    let all = digests_at digests indexes in
    let get = λ (index : ℕ). get_or digests index [] in
    sym (take-append-drop count all)
    ∙ ap (λ l. l ++ drop count all) (take-map get count indexes ∙ front)
    ∙ ap (λ l. take count leaves ++ l) (drop-map get count indexes ∙ back)
    ∙ take-append-drop count leaves

module _ (hash : NodeHash) (empty : Digest) (digests : List Digest) where
  -- two pairs below a place collide
  record Clash (level place : ℕ) (known : Known) : Type 0 where
    pub l : ℕ
    pub p : ℕ
    pub pair : Digest × Digest
    pub hashed : HashesPair hash (length digests) level place known l p pair
    pub own : Digest × Digest
    pub tree : IsTreePair hash (Ok empty) digests l p own
    pub collide : Collide hash pair own

  higher : {level place level2 place2 : ℕ} {known known2 : Known} → Clash level place known
      → ((l p : ℕ) (pair : Digest × Digest) → HashesPair hash (length digests) level place known l p pair
      → HashesPair hash (length digests) level2 place2 known2 l p pair) → Clash level2 place2 known2
  higher c up = record {
    l = c.l;
    p = c.p;
    pair = c.pair;
    hashed = up c.l c.p c.pair c.hashed;
    own = c.own;
    tree = c.tree;
    collide = c.collide;
  }

  all : length (there {E = Error} digests) ≡ length digests
  all = length-map digests Ok

  bound : (level place : ℕ) (indexes : List ℕ) (leaves proof : List Digest) (root : Digest)
      → Within (length digests) level place indexes → length leaves ≡ length indexes
      → place * 2 ^ level < length digests
      → known_hash hash (length digests) level place (knows indexes leaves proof) ≡ Ok root
      → node (joined hash) (Ok empty) level place (there digests) ≡ Ok root
      → (digests_at digests indexes ≡ leaves) ⊎ Clash level place (knows indexes leaves proof)
  bound level place [] [] proof root w long inside shown tree = inl refl
  bound zero place (i ∷ []) (x ∷ []) proof root w long inside shown tree =
      let low : place < length digests = omega arith in
      let here : i ≡ place = omega (arith, w.below, w.rises.0, w.rises.1) in
      let leaf : x ≡ root = done_injective {E = Error} x root shown in
      let own : get_or digests place [] ≡ root = done_injective {E = Error} (get_or digests place []) root
      (sym (node-zero hash [] (Ok empty) digests place low) ∙ tree) in
      inl (ap (λ d. d ∷ []) (ap (λ n. get_or digests n []) here ∙ own ∙ sym leaf))
  bound (suc level) place (i ∷ rest) leaves proof root w long inside shown tree =
      let at = count_below (middle level place) (i ∷ rest) in
      let few = count-few (middle level place) (i ∷ rest) in
      let used = count_around (length digests) level (place + place) (take at (i ∷ rest)) in
      elim (cases_lt (middle level place) (length digests)) [
        | inr none ↦ elim (bound level (place + place) (i ∷ rest) leaves proof root (within-alone w none) long (omega
            (arith, left-first level place)) (rw (le-ltb (middle level place) (length digests) none) at shown)
            (sym (node-alone (joined hash) (Ok empty) level place (there digests) (omega (arith, all))) ∙ tree)) [
              | inl stand ↦ inl stand
              | inr clash ↦ inr (higher clash (λ l p pair h. Alone none h))
            ]
        | inl more ↦
            let both = joined-ok hash _ _ root (rw (lt-ltb (middle level place) (length digests) more) at shown) in
            let own = joined-ok hash _ _ root (sym (node-both (joined hash) (Ok empty) level place (there digests)
            (omega (arith, all))) ∙ tree) in
            elim (same_pairs same_digests hash (both.0, both.1) (own.0, own.1) root both.4 own.4) [
              | inr collide ↦ inr (record {
                l = level;
                p = place;
                pair = (both.0, both.1);
                hashed = Own (omega arith) more both.2 both.3;
                own = (own.0, own.1);
                tree = record { inside = more; left = own.2; right = own.3 };
                collide = collide;
              })
              | inl same ↦ elim (bound level (place + place) (take at (i ∷ rest)) (take at leaves) proof both.0
                  (within-left w more)
                  (length-take-le at leaves (omega arith) ∙ sym (length-take-le at (i ∷ rest) few))
                  (omega (arith, left-first level place)) both.2 (own.2 ∙ ap (λ q. Ok q.0) (sym same))) [
                    | inr clash ↦ inr (higher clash (λ l p pair h. InLeft more h))
                    | inl front ↦ elim (bound level (place + place + 1) (drop at (i ∷ rest)) (drop at leaves)
                        (drop used proof) both.1 (within-right w) (omega
                        (arith, length-drop at leaves, length-drop at (i ∷ rest))) more both.3
                        (own.3 ∙ ap (λ q. Ok q.1) (sym same))) [
                          | inr clash ↦ inr (higher clash (λ l p pair h. InRight more h))
                          | inl back ↦ inl (halves-stand digests at (i ∷ rest) leaves front back)
                        ]
                  ]
            ]
      ]
  bound level place [] (x ∷ leaves) proof root w long inside shown tree = absurd (omega arith)
  bound zero place (i ∷ []) [] proof root w long inside shown tree = absurd (omega arith)
  bound zero place (i ∷ []) (x ∷ y ∷ leaves) proof root w long inside shown tree = absurd (omega arith)
  bound zero place (i ∷ j ∷ rest) leaves proof root w long inside shown tree =
      absurd (omega (arith, w.below, w.rises.0, w.rises.2.0, w.rises.2.1))

-- ---- the verdict

pub form-parts : (size : ℕ) (known : Known) → has_form size known ≡ true → (are_multi_indexes size known.indexes ≡ true)
    × (length known.leaves ≡ length known.indexes) × (length known.proof ≡ multi_length size known.indexes)
form-parts size known is =
    let a = and_parts (are_multi_indexes size known.indexes && (length known.leaves == length known.indexes))
    (length known.proof == multi_length size known.indexes) is in
    let b = and_parts (are_multi_indexes size known.indexes) (length known.leaves == length known.indexes) a.0 in (
      b.0,
      eqb-true (length known.leaves) (length known.indexes) b.1,
      eqb-true (length known.proof) (multi_length size known.indexes) a.1,
    )

-- What indexes of a multi-proof say of the size.
pub some-size : (size : ℕ) (indexes : List ℕ) → are_multi_indexes size indexes ≡ true → 0 < size
some-size size [] is = absurd (false≢true is)
some-size size (i ∷ rest) is =
    let w = within-all size (i ∷ rest) (omega (arith, pow_above size)) is in omega (arith, w.inside, w.rises.1)

pub verdict-form : (hash : NodeHash) (root : Digest) (size : ℕ) (known : Known) → has_form size known ≡ true
    → known_verdict hash root size known ≡ (known_hash hash size size 0 known >>= λ top. Ok (digest_eq top root))
verdict-form hash root size known form = rw (form) refl

-- a check that was accepted
pub accepted-parts : (hash : NodeHash) (root : Digest) (size : ℕ) (known : Known)
    → known_verdict hash root size known ≡ Ok true → (has_form size known ≡ true)
    × (known_hash hash size size 0 known ≡ Ok root)
accepted-parts hash root size known is = elim (cases_Bool (has_form size known)) [
  | inr none ↦ absurd (false≢true (refused false (rw (none) at is)))
  | inl form ↦
      let step = bind_ok (known_hash hash size size 0 known) (λ top. Ok (digest_eq top root)) true
      (sym (verdict-form hash root size known form) ∙ is) in
      (form, step.1 ∙ ap Ok ((bytes_eq-Decides step.0 root).0 (refused (digest_eq step.0 root) step.2)))
]

pub multi-bound : (hash : NodeHash) (root : Digest) (size : ℕ) (known : Known)
    → known_verdict hash root size known ≡ Ok true → BindsDigests hash root size known
multi-bound hash root size known is empty digests long tree =
    let a = accepted-parts hash root size known is in
    let form = form-parts size known a.0 in
    let high = pow_above size in
    let own : node (joined hash) (Ok empty) size 0 (there digests) ≡ Ok root
    = node-top (joined hash) (Ok empty) size (there digests) (omega (
      arith,
      length-map {B = Outcome Digest} digests
          Ok,
    )) ∙ rw (long) at tree in
    let shown : known_hash hash (length digests) size 0 known ≡ Ok root
    = ap (λ n. known_hash hash n size 0 known) long ∙ a.1 in
    let first : 0 * 2 ^ size ≡ 0 = omega arith in
    elim (bound hash empty digests size 0 known.indexes known.leaves known.proof root (rw (long) (within-all size
    known.indexes (omega arith) form.0)) form.1 (omega (arith, some-size size known.indexes form.0)) shown own) [
      | inl stand ↦ inl stand
      | inr clash ↦ inr (
        clash.l,
        clash.p,
        record {
          pair = clash.pair;
          hashed = subst (λ n. HashesPair hash (length digests) n 0 known clash.l clash.p clash.pair) (sym long)
              clash.hashed;
          own = clash.own;
          tree = clash.tree;
          collide = clash.collide;
        },
      )
    ]
