-- Sums under way.
use Rattle.edwards.specs.Extended.{scale_of}
use Rattle.jubjub.specs.declared.element.Jubjub.{Jubjub}
use Rattle.jubjub.specs.declared.element.sums.JubjubSum.{JubjubSum}
use Rattle.jubjub.specs.Extended.{affine_at}
use Rattle.jubjub.specs.Laws.Elements.{element}
use Rattle.jubjub.specs.Values.{Fr}

-- the element that a sum under way stands for
abbrev pub total : JubjubSum → Jubjub
total s = element (affine_at s.point) s.inside.in_subgroup

-- its third coordinate
abbrev pub scale_in : JubjubSum → Fr
scale_in s = scale_of s.point
