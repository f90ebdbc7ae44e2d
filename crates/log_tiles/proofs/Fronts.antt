-- What ways of accepted proofs show.
use Rattle.std.proofs.Common.{◌≡◌, ◌⊎◌, ◌≤◌, ℕ, List, [], ◌∷◌, length, take, true, false, Ok, ap, sym, subst, ◌∙◌, inl, inr, arith}
use Rattle.std.proofs.lemmas.Bool.{cases_lt, lt-ltb, ne_eqb, false≢true}
use Rattle.std.proofs.lemmas.List.{length-take-le, take_all, take-take}
use Rattle.ark_base.specs.declared.error.Error.{Error}
use Rattle.ark_base.specs.Laws.Steps.{done_injective}
use Rattle.ark_paths.specs.Pair.{Digest}
use Rattle.ark_trees.specs.Rfc6962.{node_of}
use Rattle.sha2.specs.Sha256.{sha256}
use Rattle.merkle_log.specs.Collision.{TreesCollideAt}
use Rattle.merkle_log.specs.Log.{merkle_tree_hash}
use Rattle.merkle_log.specs.Trees.{tree_hash}
use Rattle.merkle_log.specs.Walk.{joined}
use Rattle.merkle_log.proofs.Above.{there}
use Rattle.merkle_log.proofs.Agree.{same_root}
use Rattle.merkle_log.proofs.Verdicts.{consistency-root, pow_above, same_digests}
use Rattle.log_tiles.specs.Ways.{IsAcceptedFrom, IsFrontOf, IsLogOf, LeadsBy, Stage, WayCollides}
use Rattle.log_tiles.specs.declared.following.Head.{Head}

-- No accepted proof leads to a smaller log.
pub accepted-grows : (old new : Head) (path : List Digest) → IsAcceptedFrom old new path → old.size ≤ new.size
accepted-grows old new path is = elim (cases_lt new.size old.size) [
  | inr le ↦ le
  | inl less ↦
      absurd (false≢true (done_injective {E = Error} false true
      (rw (ne_eqb old.size 0 (λ none. omega arith), lt-ltb new.size old.size less) at is)))
]

pub way-grows : (old new : Head) (way : List Stage) → LeadsBy old new way → old.size ≤ new.size
way-grows old new [] is = let same = ap (λ head. head.size) is in omega arith
way-grows old new (stage ∷ earlier) is =
    let a = accepted-grows stage.from new stage.path is.0 in
    let b = way-grows old stage.from earlier is.1 in
    omega arith

-- the front of a list of the new head
way-front : (old new : Head) (way : List Stage) → LeadsBy old new way → (digests : List Digest) → IsLogOf new digests
    → IsLogOf old (take old.size digests) ⊎ WayCollides new way digests
way-front old new [] is digests log =
    let all = take_all old.size digests (let same = ap (λ head. head.size) is in let long = log.0 in omega arith) in
    inl (
      ap length all ∙ log.0 ∙ sym (ap (λ head. head.size) is),
      ap (merkle_tree_hash node_of (sha256 [])) all ∙ log.1
          ∙ ap (λ head. Ok head.root) (sym is),
    )
way-front old new (stage ∷ earlier) is digests log =
    let mid = stage.from in
    let le = accepted-grows mid new stage.path is.0 in
    elim (consistency-root node_of mid.size mid.root new.size new.root stage.path is.0 (sha256 []) digests log.0
    log.1) [
      | inr found ↦ inr (inl found)
      | inl begins ↦ elim (way-front old mid earlier is.1 (take mid.size digests)
          (length-take-le mid.size digests (omega (arith, log.0)), begins)) [
            | inr found ↦ inr (inr found)
            | inl first ↦ inl (subst (λ front. IsLogOf old front) (take-take old.size mid.size digests
                (way-grows old mid earlier is.1)) first)
          ]
    ]

-- two lists of one head
same-lists : (head : Head) (xs ys : List Digest) → IsLogOf head xs → IsLogOf head ys
    → (xs ≡ ys) ⊎ ((level place : ℕ) × TreesCollideAt node_of (Ok (sha256 [])) xs ys level place)
same-lists head xs ys one two =
    let levels = λ (digests : List Digest) (n : ℕ). tree_hash (joined node_of) (Ok (sha256 [])) n (there digests) in
    same_root same_digests node_of [] (Ok (sha256 [])) head.size head.root xs ys (one.0 ∙ sym two.0)
    (omega (arith, pow_above head.size, two.0)) (ap (levels xs) (sym one.0) ∙ one.1)
    (ap (levels ys) (sym two.0) ∙ two.1)

pub fronted : (old new : Head) (way : List Stage) → LeadsBy old new way → IsFrontOf old new way
fronted old new way is = record {
  no_larger = way-grows old new way is;
  front = way-front old new way is;
  only = λ old_digests digests old_log log. elim (way-front old new way is digests log) [
    | inr found ↦ inr (inl found)
    | inl first ↦ elim (same-lists old old_digests (take old.size digests) old_log first) [
      | inl lists ↦ inl lists
      | inr found ↦ inr (inr found)
    ]
  ];
}
