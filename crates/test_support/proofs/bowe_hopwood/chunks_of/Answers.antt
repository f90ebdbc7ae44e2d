use Rattle.std.proofs.Common.{◌≡◌, ◌<◌, Bool, false, List, [], ◌∷◌, ◌++◌, length, drop, get_or, sym, ◌∙◌, append_assoc, arith}
use Rattle.std.proofs.lemmas.Bool.{eqb-true, eqb-false}
use Rattle.std.proofs.lemmas.List.{append-nil}
use Rattle.ark_bowe_hopwood.specs.BoweHopwood.{Chunk, chunks_of}
use Rattle.test_support.proofs.bowe_hopwood.chunks_of.Goals as goal

step : (front whole : List Chunk) (rest : List Bool) → 0 < length rest → front ++ chunks_of rest ≡ whole
    → (front ++ (get_or rest 0 false, get_or rest 1 false, get_or rest 2 false) ∷ []) ++ chunks_of (drop 3 rest) ≡ whole
unfolding chunks_of
step front whole [] some so_far = absurd (omega arith)
step front whole (a ∷ []) some so_far = append_assoc front _ _ ∙ so_far
step front whole (a ∷ b ∷ []) some so_far = append_assoc front _ _ ∙ so_far
step front whole (a ∷ b ∷ c ∷ rest) some so_far = append_assoc front _ _ ∙ so_far

all : (front whole : List Chunk) (rest : List Bool) → length rest ≡ 0 → front ++ chunks_of rest ≡ whole → front ≡ whole
unfolding chunks_of
all front whole [] none so_far = sym (append-nil front) ∙ so_far
all front whole (a ∷ rest) none so_far = absurd (omega arith)

pub loop-rest-preserved : goal.loop-rest-preserved
loop-rest-preserved c =
    let some = eqb-false _ 0 (sym c.is_empty.ensures ∙ c.loop-rest-test.true) in
    rw (
      c.in_ok-push.ensures.items,
      c.items_behind-rest.ensures,
      c.bit_in.ensures,
      c.bit_in-in-loop-rest.ensures,
      c.bit_in-in-loop-rest-2.ensures,
    ) (step c.loop-rest.chunks.items _ c.loop-rest.rest.now (omega (arith, some))
    c.loop-rest.invariant)

pub returns : goal.returns
returns c = all _ _ c.loop-rest.rest.now (eqb-true _ 0 (sym c.is_empty.ensures ∙ c.loop-rest-test.false))
    c.loop-rest.invariant
