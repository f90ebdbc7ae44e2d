use Rattle.std.proofs.Common.{◌≡◌, ◌++◌, ◌*◌, [], ◌∷◌, arith, length, slice_index}
use Rattle.std.proofs.lemmas.List.{length-append}
use Rattle.sha2.specs.Sha256.{word_at}
use Rattle.sha256_lanes.proofs.LaneLemmas.{below_sixteen}
use Rattle.sha256_lanes.proofs.PairLemmas.{pair_left, pair_right}
use Rattle.sha256_lanes.proofs.pairs.pair_words.Goals as goal

pub returns : goal.returns
returns c =
    let l = c.args.left.now in
    let r = c.args.right.now in
    let size : length l ≡ 32 = omega arith in
    let w =
    c.load_be.result ∷ c.load_be-2.result ∷ c.load_be-3.result ∷ c.load_be-4.result ∷ c.load_be-5.result
    ∷ c.load_be-6.result ∷ c.load_be-7.result ∷ c.load_be-8.result ∷ c.load_be-9.result ∷ c.load_be-10.result
    ∷ c.load_be-11.result ∷ c.load_be-12.result ∷ c.load_be-13.result ∷ c.load_be-14.result ∷ c.load_be-15.result
    ∷ c.load_be-16.result ∷ [] in (
      omega (arith, length-append l r),
      below_sixteen (λ k. slice_index w k ≡ word_at (l ++ r) (4 * k))
          (pair_left l r 0 _ (omega arith) size c.load_be.ensures)
          (pair_left l r 1 _ (omega arith) size c.load_be-2.ensures)
          (pair_left l r 2 _ (omega arith) size c.load_be-3.ensures)
          (pair_left l r 3 _ (omega arith) size c.load_be-4.ensures)
          (pair_left l r 4 _ (omega arith) size c.load_be-5.ensures)
          (pair_left l r 5 _ (omega arith) size c.load_be-6.ensures)
          (pair_left l r 6 _ (omega arith) size c.load_be-7.ensures)
          (pair_left l r 7 _ (omega arith) size c.load_be-8.ensures)
          (pair_right l r 0 _ size c.load_be-9.ensures)
          (pair_right l r 1 _ size c.load_be-10.ensures)
          (pair_right l r 2 _ size c.load_be-11.ensures)
          (pair_right l r 3 _ size c.load_be-12.ensures)
          (pair_right l r 4 _ size c.load_be-13.ensures)
          (pair_right l r 5 _ size c.load_be-14.ensures)
          (pair_right l r 6 _ size c.load_be-15.ensures)
          (pair_right l r 7 _ size c.load_be-16.ensures),
    )
