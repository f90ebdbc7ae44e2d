-- The configuration `sha256`: leaf and digest tokens are their bytes, and both hashes of pairs are that of left, then
-- right.
use Rattle.std.specs.Prelude.{◌++◌, Ok}
use Rattle.std.specs.Option.{option_map}
use Rattle.sha2.specs.Sha256.{sha256}
use Rattle.ark_base.specs.Spelling.{byte, byte_at, counted_list, counted_list_at}
use Rattle.ark_paths.specs.MultiPathBytes.{multi_bytes, multi_way_at}
use Rattle.ark_paths.specs.PathBytes.{way_bytes, way_at}
use Rattle.acp_run.specs.Language.{Language}
use Rattle.acp_run.specs.Tokens.{bytes_of}

-- the language of `sha256`
abbrev pub sha_language : Language
sha_language = record {
  leaf_outcome = λ token. option_map (λ bytes. Ok (sha256 bytes)) (bytes_of token);
  digest = bytes_of;
  bytes = bytes_of;
  root_bytes = λ digest. digest;
  pair_hashes = record {
    bottom = λ left right. Ok (sha256 (left ++ right));
    upper = λ left right. Ok (sha256 (left ++ right));
  };
  path_bytes = way_bytes (counted_list byte) (counted_list byte);
  path_reading = way_at (λ bytes. bytes) (λ bytes. bytes) (counted_list_at byte_at) (counted_list_at byte_at);
  multi_path_bytes = multi_bytes (counted_list byte) (counted_list byte);
  multi_path_reading =
      multi_way_at (λ bytes. bytes) (λ bytes. bytes) (counted_list_at byte_at) (counted_list_at byte_at);
}
