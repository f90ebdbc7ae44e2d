-- Elements of the prime subgroup, and their group.
use Rattle.ark_groups.specs.Group.{Group}
use Rattle.jubjub.specs.declared.element.Jubjub.{Jubjub}
use Rattle.jubjub.specs.Edwards.{Coordinates, sum, neutral, negative}
use Rattle.jubjub.specs.Jubjub.{p, d, base_point}
use Rattle.jubjub.specs.Laws.Points.{neutral_in_subgroup, sum_in_subgroup, negative_in_subgroup}
use Rattle.jubjub.specs.Laws.Elements.{element, coordinates_of}
use Rattle.jubjub.specs.Laws.Generator.{generator_in_subgroup}

-- the coordinates of an element
abbrev pub coordinates : Jubjub → Coordinates
coordinates e = coordinates_of e.x e.y

-- the zero, the sum and the negative of elements: those of their coordinates
abbrev pub jubjub : Group Jubjub
jubjub = record {
  identity = element neutral neutral_in_subgroup;
  plus = λ a b. element (sum p d (coordinates a) (coordinates b))
      (sum_in_subgroup (coordinates a) (coordinates b) a.in_subgroup b.in_subgroup);
  opposite = λ a. element (negative p (coordinates a)) (negative_in_subgroup (coordinates a) a.in_subgroup);
}

-- the generator of the prime subgroup: each element is a multiple of it (`BaseGenerates`)
unfoldable pub base : Jubjub
base = element base_point generator_in_subgroup
