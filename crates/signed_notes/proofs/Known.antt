-- What stands past the end of a list of verifiers.
use Rattle.std.proofs.Common.{[]}
use Rattle.signed_notes.specs.declared.keys.Algorithm.TheVariants.{Ed25519}
use Rattle.signed_notes.specs.declared.keys.Verifier.{Verifier}

abbrev pub no-key : Verifier
no-key = record { name = record { ref_ptr = (0, 0); now = [] }; algorithm = Ed25519; key = [] }
