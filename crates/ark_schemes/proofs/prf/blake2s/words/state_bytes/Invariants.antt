use Rattle.std.proofs.Common.{◌≡◌, ◌*◌, length, take}
use Rattle.std.specs.List.{flat_map}
use Rattle.std.specs.Int.{w32, to_le_bytes}
use Rattle.ark_schemes.proofs.prf.blake2s.words.state_bytes.Given as goal

abbrev pub invariant-words : goal.invariant-words
invariant-words l = record {
  size : length l.bytes ≡ 32;
  written : take (4 * l.i) l.bytes ≡ flat_map (to_le_bytes w32)
      (take l.i l.h);
}
