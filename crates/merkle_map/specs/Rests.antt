-- What is left of a tree that lost an entry.
use Rattle.std.specs.Prelude.{Bool, true, false, if◌then◌else◌, Ok, Err}
use Rattle.std.specs.Str.{bytes_eq}
use Rattle.ark_base.specs.Outcome.{Outcome}
use Rattle.merkle_map.specs.Map.{Digest}
use Rattle.merkle_map.specs.Tree.{Shape, Empty, One, Fork, Hidden}
use Rattle.merkle_map.specs.declared.remove.Rest.{Rest}
use Rattle.merkle_map.specs.declared.remove.Rest.TheVariants.{Nothing, Lone, More, Any, Unknown}

-- nothing, an only entry, more, or what is hidden decides
abbrev pub rest_of : Outcome Shape → Rest
rest_of (Ok Empty) = Nothing
rest_of (Ok (One entry)) = Lone
rest_of (Ok (Fork left right)) = More
rest_of (Ok (Hidden digest)) = Unknown
rest_of (Err error) = Unknown

-- the same of a tree as it is: what is hidden is something where its digest is not that of nothing
abbrev pub rest_seen : Digest → Shape → Rest
rest_seen nothing Empty = Nothing
rest_seen nothing (One entry) = Lone
rest_seen nothing (Fork left right) = More
rest_seen nothing (Hidden digest) = if bytes_eq digest nothing then Unknown else Any

-- what is left of a side, and of both with the one beside it as it is
abbrev pub rest_beside : Rest → Rest → Rest
rest_beside Nothing Nothing = Nothing
rest_beside Nothing Lone = Lone
rest_beside Nothing More = More
rest_beside Nothing Any = Unknown
rest_beside Nothing Unknown = Unknown
rest_beside Lone Nothing = Lone
rest_beside Lone Lone = More
rest_beside Lone More = More
rest_beside Lone Any = More
rest_beside Lone Unknown = Unknown
rest_beside More beside = More
rest_beside Any beside = Unknown
rest_beside Unknown beside = Unknown

-- what is hidden decides what is left
abbrev pub is_hidden_rest : Rest → Bool
is_hidden_rest Nothing = false
is_hidden_rest Lone = false
is_hidden_rest More = false
is_hidden_rest Any = true
is_hidden_rest Unknown = true
