use Rattle.std.proofs.Common.{◌≡◌, ◌++◌, ◌≤◌, ℕ, List, length, map, take, drop, All}
use Rattle.std.specs.List.{flat_map}
use Rattle.ark_trees.specs.Rfc6962.{entry_hash}
use Rattle.log_tiles.specs.Bundles.{entry_bytes, IsBundleOf}
use Rattle.log_tiles.proofs.bundles.is_bundle.Given as goal

abbrev pub invariant-digests : goal.invariant-digests
invariant-digests l = record {
  read : (entries : List (List ℕ)) × (l.bytes ≡ flat_map entry_bytes entries ++ l.rest)
      × (map entry_hash entries ≡ take l.digest-index l.digests) × All (λ entry. length entry ≤ 65535) entries;
  own : (bundle : IsBundleOf l.digests l.bytes)
      → l.rest ≡ flat_map entry_bytes (drop l.digest-index bundle.entries);
}
