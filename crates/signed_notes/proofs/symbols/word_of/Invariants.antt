use Rattle.std.proofs.Common.{◌≡◌, ◌≤◌, ◌*◌, length, take}
use Rattle.base64.specs.Engines.{standard}
use Rattle.base64.specs.GeneralPurpose.{encode_of}
use Rattle.signed_notes.proofs.symbols.word_of.Given as goal

abbrev pub invariant-groups : goal.invariant-groups
invariant-groups l = record {
  long : length l.word ≡ 44;
  within : l.group ≤ 11;
  front : take (4 * l.group) l.word ≡ encode_of standard (take (3 * l.group) l.bytes);
}
