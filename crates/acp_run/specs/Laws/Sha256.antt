-- The language of `sha256` is that of its digests.
use Rattle.std.specs.Prelude.{◌≡◌, ℕ, List, drop}
use Rattle.std.proofs.Common.{sym}
use Rattle.ark_base.specs.Spelling.{byte, byte_at, counted_list, counted_list_at}
use Rattle.ark_base.specs.Laws.Lists.{drop-counted_list}
use Rattle.ark_paths.specs.MultiPathBytes.{multi_way_at}
use Rattle.ark_paths.specs.PathBytes.{way_at}
use Rattle.acp_run.specs.Sha256.{sha_language}

-- the bytes of a digest, as they stand behind their count
abbrev behind_count : List ℕ → List ℕ
behind_count bytes = drop 8 (counted_list byte bytes)

pub language-sha : sha_language ≡ record sha_language {
  path_reading = way_at behind_count behind_count (counted_list_at byte_at) (counted_list_at byte_at);
  multi_path_reading = multi_way_at behind_count behind_count (counted_list_at byte_at) (counted_list_at byte_at);
}
language-sha = sym (λ i. record sha_language {
  path_reading = way_at (λ bytes. drop-counted_list bytes i) (λ bytes. drop-counted_list bytes i)
      (counted_list_at byte_at) (counted_list_at byte_at);
  multi_path_reading = multi_way_at (λ bytes. drop-counted_list bytes i) (λ bytes. drop-counted_list bytes i)
      (counted_list_at byte_at) (counted_list_at byte_at);
})
