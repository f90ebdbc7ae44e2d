-- What the bytes of a log's proofs show, in the hashing of RFC 6962.
pub use Rattle.log_file.specs.Shown.{continuing_shown, entry_shown}
pub use Rattle.merkle_log.specs.Received.{proof_digests}
