use Rattle.std.proofs.Common.{◌≡◌, ◌<◌, ◌≤◌, ◌+◌, ◌∙◌, map, take, drop, ap, sym, length, arith, refl, length-drop}
use Rattle.std.proofs.lemmas.List.{take_all, length-take, length-take-le}
use Rattle.ark_sponge.specs.Permutation.{permutation}
use Rattle.ark_sponge.specs.Duplex.{numbers_from_place}
use Rattle.ark_sponge.proofs.Squeezes.{at_turn, at_last, given_block}
use Rattle.ark_sponge.proofs.poseidon.duplex.squeeze_blocks.Goals as goal

pub loop-given-init : goal.loop-given-init
loop-given-init g c =
    record {
      at = record { turns = 0; state = refl; count = omega arith; within = c.requires.start };
      numbers = refl;
      begun = λ none. absurd (omega (arith, none));
      within = omega arith;
      state = c.requires.width;
      scratch = c.requires.scratch ∙ c.requires.width;
      out = refl;
    }

pub loop-given-preserved : goal.loop-given-preserved
loop-given-preserved g c =
    let f = g.F.Field in
    let q = c.args.parameters.now in
    let permute = permutation f.MODULUS g.S.SBox.image q in
    let init = map g.F.Valued.value c.args.state.now in
    let state = c.turn-place.new.state in
    let given = c.loop-given.given in
    let place = c.turn-place.result in
    let count = c.min-count.result in
    let behind = c.split_at.result.1.now in
    let new = c.write_at.new.list in
    let kept = c.loop-given.invariant in
    let rate = c.rate-rate.ensures in
    let pos : 0 < q.rate = omega (arith, rate.positive, rate.value) in
    let turned = at_turn q.rate permute init (c.args.start + given) c.loop-given.index place
    (map g.F.Valued.value c.loop-given.state) (map g.F.Valued.value state) pos kept.at c.turn-place.ensures.value in
    let long : length state ≡ q.rate + q.capacity = c.turn-place.auto.state ∙ kept.state in
    let room : place + count ≤ q.rate = omega (arith, c.min-count.ensures, turned.1, rate.value) in
    let behind-is : behind ≡ drop (q.capacity + place) state =
    c.split_at.ensures.back ∙ ap (λ n. drop (n + place) state) c.capacity-capacity.ensures in
    let taken : length (take count behind) ≡ count = length-take-le count behind (omega (
      arith,
      ap length behind-is,
      length-drop (q.capacity + place) state,
      long,
      room,
    )) in
    record {
      at = record {
        turns = turned.0.turns;
        state = turned.0.state;
        count = omega (arith, turned.0.count);
        within = room;
      };
      numbers = given_block q.rate permute init g.F.Valued.value q.capacity c.args.start given count place
          c.loop-given.out new (take count behind) behind state turned.0 room
          (omega (arith, long)) behind-is refl (ap (λ n. take (given + n) new) (sym taken) ∙ c.write_at.ensures.front)
          kept.numbers;
      begun = λ some. omega (arith, c.min-count.ensures, turned.1, rate.value, c.loop-given-test.true);
      within = omega (arith, c.write_at.ensures.length, c.min-count.ensures, kept.within);
      state = long;
      scratch = c.turn-place.auto.scratch ∙ kept.scratch;
      out = c.write_at.ensures.length ∙ kept.out;
    }

pub returns-clause-numbers : goal.returns-clause-numbers
returns-clause-numbers g c =
    let kept = c.loop-given.invariant in
    let all : take c.loop-given.given c.loop-given.out ≡ c.loop-given.out =
    take_all c.loop-given.given c.loop-given.out c.loop-given-test.false in
    ap (map g.F.Valued.value) (sym all) ∙ kept.numbers
    ∙ ap (numbers_from_place c.args.parameters.now.rate c.args.parameters.now.capacity
    (permutation g.F.Field.MODULUS g.S.SBox.image c.args.parameters.now) (map g.F.Valued.value c.args.state.now)
    c.args.start) (omega (arith, c.loop-given-test.false, kept.within, kept.out))

pub returns-clause-index : goal.returns-clause-index
returns-clause-index g c =
    (at_last _ _ _ c.args.start (length c.args.out.now) c.loop-given.given _ _ c.requires.some
    (omega (arith, c.loop-given-test.false, c.loop-given.invariant.out))
    (omega (arith, c.loop-given.invariant.within, c.loop-given.invariant.out)) c.loop-given.invariant.at
    c.loop-given.invariant.begun).1

pub returns-clause-state : goal.returns-clause-state
returns-clause-state g c =
    (at_last _ _ _ c.args.start (length c.args.out.now) c.loop-given.given _ _ c.requires.some
    (omega (arith, c.loop-given-test.false, c.loop-given.invariant.out))
    (omega (arith, c.loop-given.invariant.within, c.loop-given.invariant.out)) c.loop-given.invariant.at
    c.loop-given.invariant.begun).0

pub split_at-requires : goal.split_at-requires
split_at-requires g c =
    omega (
      arith,
      c.capacity-capacity.ensures,
      c.turn-place.ensures.within,
      c.turn-place.auto.state,
      c.loop-given.invariant.state,
    )

pub write_at-requires : goal.write_at-requires
write_at-requires g c =
    omega (arith, length-take c.min-count.result c.split_at.result.1.now, c.min-count.ensures, c.loop-given-test.true)

pub turn-place-requires : goal.turn-place-requires
turn-place-requires g c =
    record {
      width = c.loop-given.invariant.state;
      scratch = c.loop-given.invariant.scratch
          ∙ sym c.loop-given.invariant.state;
      index = c.loop-given.invariant.at.within;
    }

pub returns-clause-within : goal.returns-clause-within
returns-clause-within g c = c.loop-given.invariant.at.within
