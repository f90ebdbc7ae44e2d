-- What the numbers of a kept map name.
use Rattle.std.specs.Prelude.{◌<◌, ◌+◌, ◌*◌, ℕ}
use Rattle.kept_map.specs.declared.nodes.Part.{Part}
use Rattle.kept_map.specs.declared.nodes.Part.TheVariants.{Nothing, Entry, Fork}

-- the number of a part
abbrev pub part_number : Part → ℕ
part_number Nothing = 0
part_number (Entry k) = 2 * k + 1
part_number (Fork k) = 2 * k + 2

-- The part lies among the first entries and forks, so many of each.
abbrev pub IsThere : ℕ → ℕ → Part → Type 0
IsThere entries forks Nothing = Unit {0}
IsThere entries forks (Entry k) = k < entries
IsThere entries forks (Fork k) = k < forks
