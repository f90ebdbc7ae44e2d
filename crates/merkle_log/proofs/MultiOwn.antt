-- A list's own multi-proof leads to its root.
use Rattle.std.proofs.Common.{zero, suc, ◌≡◌, ℕ, ◌+◌, ◌*◌, ◌<◌, ◌^◌, true, List, [], ◌∷◌, ◌++◌, length, map, take, drop, get_or, Ok, arith, refl, ap, sym, ◌∙◌, inl, inr}
use Rattle.std.proofs.lemmas.Bool.{cases_lt, lt-ltb, le-ltb, and_from, eq-eqb}
use Rattle.std.proofs.lemmas.List.{length-map, take-map, drop-map, append_assoc, append-nil, drop_at}
use Rattle.std.proofs.lemmas.Slice.Eq.{bytes_eq-Decides}
use Rattle.ark_base.specs.declared.error.Error.{Error}
use Rattle.ark_base.specs.Outcome.{Outcome, ◌>>=◌}
use Rattle.ark_paths.specs.Pair.{Digest, digest_eq}
use Rattle.merkle_log.specs.Log.{NodeHash}
use Rattle.merkle_log.specs.Trees.{node}
use Rattle.merkle_log.specs.Walk.{joined}
use Rattle.merkle_log.specs.Multi.{Known, middle, count_below, count_around, hashes_around, digests_at, known_hash, multi_length, has_form, known_verdict}
use Rattle.merkle_log.specs.MultiBind.{IsMultiProof}
use Rattle.merkle_log.proofs.Above.{there}
use Rattle.merkle_log.proofs.TreePairs.{node-zero}
use Rattle.merkle_log.proofs.Verdicts.{pow_above}
use Rattle.merkle_log.proofs.MultiParts.{Within, within-left, within-right, within-alone, within-all, left-first, node-both, node-alone, node-top, length-around}
use Rattle.merkle_log.proofs.MultiBound.{knows, some-size, verdict-form}

-- the first of digests that are there
first-there : (proof : List Digest) (x : Outcome Digest) (more : List (Outcome Digest)) → there {E = Error} proof ≡ x
    ∷ more
    → Ok (get_or proof 0 []) ≡ x
first-there [] x more is = absurd cc
first-there (d ∷ proof) x more is = cc

module _ (hash : NodeHash) (empty : Digest) (digests : List Digest) where
  all : length (there {E = Error} digests) ≡ length digests
  all = length-map digests Ok

  own-hash : (level place : ℕ) (indexes : List ℕ) (proof : List Digest) (more : List (Outcome Digest))
      → Within (length digests) level place indexes → place * 2 ^ level < length digests
      → there proof ≡ hashes_around (joined hash) (Ok empty) level place indexes (there digests) ++ more
      → known_hash hash (length digests) level place (knows indexes (digests_at digests indexes) proof)
      ≡ node (joined hash) (Ok empty) level place (there digests)
  own-hash zero place [] proof more w inside is =
      first-there proof (node (joined hash) (Ok empty) 0 place (there digests)) more is
  own-hash (suc level) place [] proof more w inside is =
      first-there proof (node (joined hash) (Ok empty) (suc level) place (there digests)) more is
  own-hash zero place (i ∷ rest) proof more w inside is =
      let low : place < length digests = omega arith in
      let here : i ≡ place = omega (arith, w.below, w.rises.0, w.rises.1) in
      ap (λ n. Ok (get_or digests n [])) here ∙ sym (node-zero hash [] (Ok empty) digests place low)
  own-hash (suc level) place (i ∷ rest) proof more w inside is =
      let bound = middle level place in
      let at = count_below bound (i ∷ rest) in
      let left = take at (i ∷ rest) in
      let right = drop at (i ∷ rest) in
      let get = λ (index : ℕ). get_or digests index [] in
      elim (cases_lt (middle level place) (length digests)) [
        | inr few ↦
            rw (le-ltb (middle level place) (length digests) few)
            (own-hash level (place + place) (i ∷ rest) proof more (within-alone w few) (omega (
              arith,
              left-first level
                  place,
            )) (rw (le-ltb (middle level place) (length (there {E = Error} digests)) (omega (arith, all))) at is)
            ∙ sym (node-alone (joined hash) (Ok empty) level place (there digests) (omega (arith, all))))
        | inl some ↦
            let ls = hashes_around (joined hash) (Ok empty) level (place + place) left (there digests) in
            let rs = hashes_around (joined hash) (Ok empty) level (place + place + 1) right (there digests) in
            let used = count_around (length digests) level (place + place) left in
            let long : length ls ≡ used
            = length-around (joined hash) (Ok empty) level (place + place) left (there digests)
            ∙ ap (λ n. count_around n level (place + place) left) all in
            let parts : there proof ≡ ls ++ (rs ++ more)
            = rw (lt-ltb (middle level place) (length (there {E = Error} digests)) (omega (arith, all))) at is
            ∙ append_assoc ls rs more in
            let behind : there (drop used proof) ≡ rs ++ more
            = sym (drop-map Ok used proof) ∙ ap (drop used) parts ∙ drop_at ls (rs ++ more) used long in
            rw (lt-ltb (middle level place) (length digests) some)
            (ap (λ l. joined hash (known_hash hash (length digests) level (place + place) (knows left l proof))
            (known_hash hash (length digests) level (place + place + 1) (knows right (drop at (map get (i ∷ rest)))
            (drop used proof)))) (take-map get at (i ∷ rest))
            ∙ ap (λ l. joined hash (known_hash hash (length digests) level (place + place) (knows left (map get left)
            proof)) (known_hash hash (length digests) level (place + place + 1) (knows right l (drop used proof))))
            (drop-map get at (i ∷ rest))
            ∙ ap (λ x. joined hash x (known_hash hash (length digests) level (place + place + 1) (knows right
            (map get right) (drop used proof)))) (own-hash level (place + place) left proof (rs ++ more)
            (within-left w some) (omega (arith, left-first level place)) parts)
            ∙ ap (joined hash (node (joined hash) (Ok empty) level (place + place) (there digests)))
            (own-hash level (place + place + 1) right (drop used proof) more (within-right w) some behind)
            ∙ sym (node-both (joined hash) (Ok empty) level place (there digests) (omega (arith, all))))
      ]

module _ (hash : NodeHash) (root : Digest) (size : ℕ) (known : Known) (own : IsMultiProof hash root size known) where
  there-all : length (there {E = Error} own.digests) ≡ size
  there-all = length-map own.digests Ok ∙ own.size_is

  proof-there : there known.proof ≡ hashes_around (joined hash) (Ok own.empty) size 0 known.indexes (there own.digests)
  proof-there = sym (ap (λ n. hashes_around (joined hash) (Ok own.empty) n 0 known.indexes (there own.digests))
      (sym own.size_is) ∙ own.proof_is)

  pub own-form : has_form size known ≡ true
  own-form =
      let few : length known.proof ≡ multi_length size known.indexes
      = sym (length-map {B = Outcome Digest} known.proof Ok) ∙ ap length proof-there
      ∙ length-around (joined hash) (Ok own.empty) size 0 known.indexes (there own.digests)
      ∙ ap (λ n. count_around n size 0 known.indexes) there-all in
      let many : length known.leaves ≡ length known.indexes
      = ap length (sym own.leaves_are) ∙ length-map known.indexes (λ index. get_or own.digests index []) in
      and_from _ _ (and_from _ _ own.form (eq-eqb _ _ many)) (eq-eqb _ _ few)

  pub multi-own : known_verdict hash root size known ≡ Ok true
  multi-own =
      let digests = own.digests in
      let high = pow_above size in
      let some = some-size size known.indexes own.form in
      let top : node (joined hash) (Ok own.empty) size 0 (there digests) ≡ Ok root
      = node-top (joined hash) (Ok own.empty) size (there digests) (omega (arith, there-all))
      ∙ rw (own.size_is) at own.root_is in
      let shown : known_hash hash (length digests) size 0 (knows known.indexes (digests_at digests known.indexes)
      known.proof) ≡ Ok root
      = own-hash hash own.empty digests size 0 known.indexes known.proof [] (rw own.size_is (within-all size
      known.indexes (omega arith) own.form)) (omega (arith, own.size_is)) (proof-there ∙ sym (append-nil _)) ∙ top
      in
      verdict-form hash root size known own-form
      ∙ ap (λ o. o >>= λ top. Ok (digest_eq top root)) (sym (ap (λ n. known_hash hash n size 0 (knows known.indexes
      (digests_at digests known.indexes) known.proof)) own.size_is ∙ ap (λ l. known_hash hash size size 0 (knows
      known.indexes l known.proof)) own.leaves_are) ∙ shown)
      ∙ ap Ok ((bytes_eq-Decides root root).1 refl)
