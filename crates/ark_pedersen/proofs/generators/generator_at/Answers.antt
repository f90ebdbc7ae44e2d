use Rattle.std.proofs.Common.{sym, ◌∙◌, arith}
use Rattle.ark_pedersen.specs.Pedersen.{lists_in}
use Rattle.ark_pedersen.proofs.Shapes.{shape_all, value_in, element_in, element_at}
use Rattle.ark_pedersen.proofs.generators.generator_at.Goals as goal

pub bounds-generators-place : goal.bounds-generators-place
bounds-generators-place g c =
    let W = g.W.Window in
    rw c.WINDOW_SIZE.ensures (value_in W.NUM_WINDOWS W.WINDOW_SIZE (λ list. list.items) c.args.generators.now
    c.requires.shape c.args.place c.requires.within)

pub index-requires : goal.index-requires
index-requires g c =
    let W = g.W.Window in
    let list = c.index-generators-place.result in
    let low = element_in W.NUM_WINDOWS W.WINDOW_SIZE (λ list. list.items) c.args.generators.now c.requires.shape
    c.args.place c.requires.within list (rw c.WINDOW_SIZE.ensures at c.index-generators-place.is) in
    rw c.WINDOW_SIZE-2.ensures (omega (arith, list.ok.0, low))

pub returns-clause-within : goal.returns-clause-within
returns-clause-within g c =
    let W = g.W.Window in
    omega (
      arith,
      c.requires.within,
      shape_all W.NUM_WINDOWS W.WINDOW_SIZE (lists_in c.args.generators.now)
          c.requires.shape,
    )

pub returns-clause-is : goal.returns-clause-is
returns-clause-is g c =
    let W = g.W.Window in
    let list = c.index-generators-place.result in
    let x = c.index.result.now in
    sym (element_at W.NUM_WINDOWS W.WINDOW_SIZE (λ list. list.items) c.args.generators.now c.requires.shape c.args.place
    c.requires.within list (rw c.WINDOW_SIZE.ensures at c.index-generators-place.is) x
    ∙ sym (rw c.WINDOW_SIZE-2.ensures at c.index.ensures))
