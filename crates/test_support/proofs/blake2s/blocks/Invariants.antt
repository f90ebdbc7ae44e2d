use Rattle.std.proofs.Common.{◌≡◌, ◌*◌, map, take, drop}
use Rattle.std.specs.List.{range_with_len}
use Rattle.ark_schemes.specs.Blake2s.{full_block, words_from}
use Rattle.test_support.proofs.blake2s.blocks.Given as goal

abbrev pub invariant-text : goal.invariant-text
invariant-text l = l.blocks.items ≡ map (λ i. words_from (full_block (take 64 (drop (64 * i) l.text))) 0)
    (range_with_len 0 l.i)
