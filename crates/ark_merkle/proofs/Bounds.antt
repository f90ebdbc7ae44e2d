-- What the answer of `bind` means.
use Rattle.std.proofs.Common.{◌≡◌, ℕ, ◌%◌, Bool, true, false, ◌==◌, if◌then◌else◌, Option, Some, None, List, [], length, get_or, Ok, Err, refl, ap, sym, ◌∙◌}
use Rattle.std.proofs.lemmas.Bool.{eqb-true, eq-eqb, ne_eqb}
use Rattle.ark_base.specs.declared.error.Error.{Error}
use Rattle.ark_base.specs.declared.error.Error.TheVariants.{IncorrectInputLength}
use Rattle.std.specs.Result.{IfOk}
use Rattle.ark_base.specs.Outcome.{Outcome, Answers, ◌>>=◌}
use Rattle.ark_base.specs.Laws.Steps.{bind_ok, done_injective}
use Rattle.ark_paths.specs.Bind.{difference, Collides}
use Rattle.ark_paths.specs.Pair.{Digest, HashPair, digest_eq}
use Rattle.ark_paths.specs.Path.{Way, path_root, verdict}
use Rattle.ark_paths.specs.Root.{root, upper_levels}
use Rattle.ark_paths.specs.Rows.{IsTree}
use Rattle.ark_paths.specs.Tree.{HashedTree, root_in}
use Rattle.ark_paths.proofs.Collisions.{digest_eq-true, agreed-leaf, differing-collides}
use Rattle.ark_merkle.specs.declared.tree.bind.Binding.{Binding}
use Rattle.ark_merkle.specs.declared.tree.bind.Binding.TheVariants.{Rejected, Stands, Differs}
use Rattle.ark_merkle.specs.Binding.{binding_of, path_binding, binding_in, gives_root}

-- ---- the parts of an answer that is no refusal

pub record Answered (h : HashPair) (leaves : List Digest) (leaf : Outcome Digest) (way : Way) (b : Binding) :
    Type 0 where
  pub long : length way.above ≡ upper_levels leaves
  pub digest : Digest
  pub leaf_is : leaf ≡ Ok digest
  pub top_digest : Digest
  pub root_is : root h leaves ≡ Ok top_digest
  pub given : Digest
  pub top_is : path_root h way digest ≡ Ok given
  pub answer : b ≡ (if digest_eq given top_digest then binding_of (difference h leaves way digest) else Rejected)

module _ (h : HashPair) (leaves : List Digest) (leaf : Outcome Digest) (way : Way) (b : Binding) where
  pub answered : path_binding h leaves leaf way ≡ Ok b → Answered h leaves leaf way b
  answered e = by_length (length way.above == upper_levels leaves) refl e
    where
      by_length : (t : Bool) → (length way.above == upper_levels leaves) ≡ t
          → (if t then (leaf >>= λ digest. root h leaves >>= λ r. path_root h way digest >>= λ given.
          Ok (if digest_eq given r then binding_of (difference h leaves way digest) else Rejected)) else Err
          (IncorrectInputLength (length way.above))) ≡ Ok b → Answered h leaves leaf way b
      by_length true is e =
          let hashed = bind_ok leaf _ b e in
          let rooted = bind_ok (root h leaves) _ b hashed.2 in
          let climbed = bind_ok (path_root h way hashed.0) _ b rooted.2 in
          record {
            long = eqb-true (length way.above) (upper_levels leaves) is;
            digest = hashed.0;
            leaf_is = hashed.1;
            top_digest = rooted.0;
            root_is = rooted.1;
            given = climbed.0;
            top_is = climbed.1;
            answer = sym (done_injective _ _ climbed.2);
          }
      by_length false is e = absurd cc

gives_root-by : (t : Bool) (o : Option ℕ) (b : Binding) → b ≡ (if t then binding_of o else Rejected) → t ≡ gives_root b
gives_root-by true None b e = rw (e) refl
gives_root-by true (Some level) b e = rw (e) refl
gives_root-by false o b e = rw (e) refl

-- it is not rejected exactly where the path gives the root
pub bound-accepted : (h : HashPair) (leaves : List Digest) (leaf : Outcome Digest) (way : Way) (b : Binding)
    → path_binding h leaves leaf way ≡ Ok b → (r : Digest) → root h leaves ≡ Ok r → verdict h leaf way r
    ≡ Ok (gives_root b)
bound-accepted h leaves leaf way b e r rooted =
    let a = answered h leaves leaf way b e in
    let same : r ≡ a.top_digest = done_injective _ _ (sym rooted ∙ a.root_is) in
    rw (a.leaf_is, a.top_is, same) (ap Ok (gives_root-by (digest_eq a.given a.top_digest) (difference h leaves way
    a.digest) b a.answer))

stands-by : (t : Bool) (o : Option ℕ) → Stands ≡ (if t then binding_of o else Rejected) → (t ≡ true) × (o ≡ None)
stands-by true None e = (refl, refl)
stands-by true (Some level) e = absurd cc
stands-by false o e = absurd cc

differs-by : (t : Bool) (o : Option ℕ) (level : ℕ) → Differs level ≡ (if t then binding_of o else Rejected) → (t ≡ true)
    × (o ≡ Some level)
differs-by true None level e = absurd cc
differs-by true (Some l) level e = let same : level ≡ l = cc in (refl, ap Some (sym same))
differs-by false o level e = absurd cc

module _ (h : HashPair) (leaves : List Digest) (rows : List (List Digest)) (tree : IsTree h leaves rows)
    (leaf : Outcome Digest) (way : Way) where
  whole : (b : Binding) (a : Answered h leaves leaf way b) → digest_eq a.given a.top_digest ≡ true → path_root h way
      a.digest ≡ root h leaves
  whole b a same = a.top_is ∙ ap Ok (digest_eq-true a.given a.top_digest same) ∙ sym a.root_is

  pub bound-stands : path_binding h leaves leaf way ≡ Ok Stands → leaf
      ≡ Ok (get_or leaves (way.index % length leaves) [])
  bound-stands e =
      let a = answered h leaves leaf way Stands e in
      let known = stands-by (digest_eq a.given a.top_digest) (difference h leaves way a.digest) a.answer in
      a.leaf_is ∙ ap Ok (agreed-leaf h leaves rows tree way a.digest a.long known.1)

  pub bound-differs : (level : ℕ) → path_binding h leaves leaf way ≡ Ok (Differs level) → (digest : Digest)
      × (leaf ≡ Ok digest) × Collides h leaves way digest level
  bound-differs level e =
      let a = answered h leaves leaf way (Differs level) e in
      let known = differs-by (digest_eq a.given a.top_digest) (difference h leaves way a.digest) level a.answer in (
        a.digest,
        a.leaf_is,
        differing-collides h leaves rows tree way a.digest a.long level known.1
            (whole (Differs level) a known.0),
      )

-- what each answer has, where it is no refusal
pub answered-each : {B : Type 0} (o : Outcome B) (Q : B → Type 0) (result : Outcome B) → Answers o result
    → ((b : B) → o ≡ Ok b → Q b) → IfOk result Q
answered-each o Q (Ok b) answer has = has b answer
answered-each o Q (Err e) answer has = tt

-- ---- the answer, from what the call knows

module _ {A : Type 0} (tree : HashedTree A) (leaf : A) (way : Way) where
  -- a path of another length is refused
  pub bound-long : (length way.above ≡ upper_levels tree.leaves → ⊥)
      → binding_in tree leaf way ≡ Err (IncorrectInputLength (length way.above))
  bound-long other = rw (ne_eqb (length way.above) (upper_levels tree.leaves) other) refl

  module _ (long : length way.above ≡ upper_levels tree.leaves) where
    long_enough : (length way.above == upper_levels tree.leaves) ≡ true
    long_enough = eq-eqb (length way.above) (upper_levels tree.leaves) long

    pub bound-unhashed : (e : Error) → tree.hashes.leaf leaf ≡ Err e → binding_in tree leaf way ≡ Err e
    bound-unhashed e refused = rw (long_enough, refused) refl

    module _ (digest : Digest) (hashed : tree.hashes.leaf leaf ≡ Ok digest) (r : Digest) (rooted : root_in tree ≡ Ok r)
      where
        pub bound-refused : (e : Error) → path_root tree.hashes.pair way digest ≡ Err e → binding_in tree leaf
            way ≡ Err e
        bound-refused e refused = rw (long_enough, hashed, rooted, refused) refl

        pub bound-ok : (given : Digest) → path_root tree.hashes.pair way digest ≡ Ok given → (is_root : Bool)
            → is_root ≡ digest_eq given r → (o : Option ℕ) → o ≡ difference tree.hashes.pair tree.leaves way digest
            → (b : Binding) → b ≡ (if is_root then binding_of o else Rejected) → binding_in tree leaf way ≡ Ok b
        bound-ok given climbed is_root is o found b answer =
            rw (long_enough, hashed, rooted, climbed, ← is, ← found, ← answer) refl
