use Rattle.jubjub.specs.Jubjub.{base_point}
use Rattle.jubjub.specs.Laws.Generator.{generator_in_subgroup}
use Rattle.jubjub.proofs.GroupLaws.{entry, made_at, made_is}
use Rattle.jubjub.specs.Elements.{base}
use Rattle.jubjub.specs.Laws.Elements.{kept}
use Rattle.jubjub.proofs.element.Jubjub.generator.Goals as goal

pub of-requires : goal.of-requires
of-requires c =
    entry c.from_words.result c.from_words-2.result base_point c.from_words.ensures c.from_words-2.ensures
    generator_in_subgroup

pub returns-clause-coordinates : goal.returns-clause-coordinates
returns-clause-coordinates c =
    made_at c.of.result c.from_words.result c.from_words-2.result base_point c.from_words.ensures c.from_words-2.ensures
    c.of.ensures

pub returns-clause-element : goal.returns-clause-element
unfolding base
returns-clause-element c =
    made_is c.of.result base c.from_words.result c.from_words-2.result base_point c.from_words.ensures
    c.from_words-2.ensures c.of.ensures (kept base_point generator_in_subgroup)
