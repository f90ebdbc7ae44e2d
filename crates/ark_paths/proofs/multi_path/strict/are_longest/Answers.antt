use Rattle.std.proofs.Common.{◌∙◌, Ok, ap, sym, arith}
use Rattle.ark_paths.proofs.MultiStrict.{LongestTo-refused, LongestTo-more}
use Rattle.ark_paths.proofs.multi_path.strict.are_longest.Goals as goal

pub returns-then-not-is_longest : goal.returns-then-not-is_longest
returns-then-not-is_longest g c = λ siblings indexes long as_long. ap Ok (LongestTo-refused g.D.Numbered.numbers
    c.args.prefixes.now c.args.suffixes.now c.loop-place.invariant (omega arith) c.requires _ _
    c.index-suffixes-place.is c.index-suffixes-0.is _ c.len.ensures
    (sym (rw (c.deref.ensures.value, c.as_slice-suffix.ensures.value) at c.is_longest.ensures)
    ∙ c.if-not-is_longest.true) siblings indexes long as_long)

pub loop-place-preserved : goal.loop-place-preserved
loop-place-preserved g c = LongestTo-more g.D.Numbered.numbers c.args.prefixes.now c.args.suffixes.now
    c.loop-place.invariant (omega arith) c.requires _ _ c.index-suffixes-place.is c.index-suffixes-0.is _ c.len.ensures
    (sym (rw (c.deref.ensures.value, c.as_slice-suffix.ensures.value) at c.is_longest.ensures)
    ∙ c.if-not-is_longest.false) (rw c.as_slice-suffix.ensures.value at c.in_ok-extend.ensures.above)
