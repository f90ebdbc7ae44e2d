use Rattle.std.proofs.Common.{◌≡◌, ℕ, ◌*◌, ◌<◌, length, slice_index}
use Rattle.ark_schemes.specs.Blake2s.{word_from}
use Rattle.ark_schemes.proofs.prf.blake2s.words.words_of.Given as goal

abbrev pub invariant-load : goal.invariant-load
invariant-load l = record {
  size : length l.words ≡ 16;
  loaded : (k : ℕ) → k < l.i → slice_index l.words k
      ≡ word_from l.block (4 * k);
}
