use Rattle.std.proofs.Common.{◌≡◌, [], ◌∷◌, ◌++◌, ◌∙◌, ◌*◌, length, slice_index, arith, sym}
use Rattle.sha2.specs.Sha256.{word_at}
use Rattle.sha256_lanes.proofs.LaneLemmas.{below_sixteen}
use Rattle.sha256_lanes.proofs.PairLemmas.{word_at-left}
use Rattle.sha256_lanes.proofs.PrefixedLemmas.{word_left, word_right, word_seam}
use Rattle.sha256_lanes.proofs.prefixed_pairs.first_words.Goals as goal

pub returns : goal.returns
returns c =
    let p = c.args.prefix in
    let l = c.args.left.now in
    let r = c.args.right.now in
    let size : length l ≡ 32 = omega arith in
    let w =
    c.load_seam.result ∷ c.load_be.result ∷ c.load_be-2.result ∷ c.load_be-3.result ∷ c.load_be-4.result
    ∷ c.load_be-5.result ∷ c.load_be-6.result ∷ c.load_be-7.result ∷ c.load_seam-2.result ∷ c.load_be-8.result
    ∷ c.load_be-9.result ∷ c.load_be-10.result ∷ c.load_be-11.result ∷ c.load_be-12.result ∷ c.load_be-13.result
    ∷ c.load_be-14.result ∷ [] in
    below_sixteen (λ k. slice_index w k ≡ word_at (p ∷ l ++ r) (4 * k))
    (c.load_seam.ensures ∙ sym (word_at-left (p ∷ l) r 0 (omega arith)))
    (word_left p l r 1 _ (omega arith) (omega arith) size c.load_be.ensures)
    (word_left p l r 2 _ (omega arith) (omega arith) size c.load_be-2.ensures)
    (word_left p l r 3 _ (omega arith) (omega arith) size c.load_be-3.ensures)
    (word_left p l r 4 _ (omega arith) (omega arith) size c.load_be-4.ensures)
    (word_left p l r 5 _ (omega arith) (omega arith) size c.load_be-5.ensures)
    (word_left p l r 6 _ (omega arith) (omega arith) size c.load_be-6.ensures)
    (word_left p l r 7 _ (omega arith) (omega arith) size c.load_be-7.ensures)
    (word_seam p l r _ size c.load_seam-2.ensures)
    (word_right p l r 1 _ (omega arith) (omega arith) size c.load_be-8.ensures)
    (word_right p l r 2 _ (omega arith) (omega arith) size c.load_be-9.ensures)
    (word_right p l r 3 _ (omega arith) (omega arith) size c.load_be-10.ensures)
    (word_right p l r 4 _ (omega arith) (omega arith) size c.load_be-11.ensures)
    (word_right p l r 5 _ (omega arith) (omega arith) size c.load_be-12.ensures)
    (word_right p l r 6 _ (omega arith) (omega arith) size c.load_be-13.ensures)
    (word_right p l r 7 _ (omega arith) (omega arith) size c.load_be-14.ensures)
