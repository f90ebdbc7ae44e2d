use Rattle.std.proofs.Common.{refl}
use Rattle.baby_jubjub.specs.Blake512.{blake_rounds}
use Rattle.baby_jubjub.proofs.Mixing.{round_of}
use Rattle.baby_jubjub.proofs.blake512.sixteen_rounds.Goals as goal

pub returns : goal.returns
unfolding blake_rounds
returns c =
    let e1 = round_of _ _ _ _ _ c.mix_all-v.ensures refl c.ordered.ensures in
    let e2 = round_of _ _ _ _ _ c.mix_all-v-2.ensures e1 c.ordered-2.ensures in
    let e3 = round_of _ _ _ _ _ c.mix_all-v-3.ensures e2 c.ordered-3.ensures in
    let e4 = round_of _ _ _ _ _ c.mix_all-v-4.ensures e3 c.ordered-4.ensures in
    let e5 = round_of _ _ _ _ _ c.mix_all-v-5.ensures e4 c.ordered-5.ensures in
    let e6 = round_of _ _ _ _ _ c.mix_all-v-6.ensures e5 c.ordered-6.ensures in
    let e7 = round_of _ _ _ _ _ c.mix_all-v-7.ensures e6 c.ordered-7.ensures in
    let e8 = round_of _ _ _ _ _ c.mix_all-v-8.ensures e7 c.ordered-8.ensures in
    let e9 = round_of _ _ _ _ _ c.mix_all-v-9.ensures e8 c.ordered-9.ensures in
    let e10 = round_of _ _ _ _ _ c.mix_all-v-10.ensures e9 c.ordered-10.ensures in
    let e11 = round_of _ _ _ _ _ c.mix_all-v-11.ensures e10 c.ordered-11.ensures in
    let e12 = round_of _ _ _ _ _ c.mix_all-v-12.ensures e11 c.ordered-12.ensures in
    let e13 = round_of _ _ _ _ _ c.mix_all-v-13.ensures e12 c.ordered-13.ensures in
    let e14 = round_of _ _ _ _ _ c.mix_all-v-14.ensures e13 c.ordered-14.ensures in
    let e15 = round_of _ _ _ _ _ c.mix_all-v-15.ensures e14 c.ordered-15.ensures in
    round_of _ _ _ _ _ c.mix_all.ensures e15 c.ordered-16.ensures
