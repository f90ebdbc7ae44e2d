use Rattle.std.proofs.Common.{◌≡◌, ◌*◌, length, take}
use Rattle.std.specs.List.{flat_map}
use Rattle.std.specs.Int.{w64, to_be_bytes}
use Rattle.baby_jubjub.proofs.blake512.bytes_of.Given as goal

abbrev pub invariant-words : goal.invariant-words
invariant-words l = record {
  size : length l.bytes ≡ 64;
  written : take (8 * l.i) l.bytes ≡ flat_map (to_be_bytes w64) (take l.i l.words);
}
