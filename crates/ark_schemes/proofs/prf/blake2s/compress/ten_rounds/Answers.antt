use Rattle.ark_schemes.specs.Blake2s.{rounds}
use Rattle.ark_schemes.proofs.Mixing.{round_of}
use Rattle.ark_schemes.proofs.prf.blake2s.compress.ten_rounds.Goals as goal

pub returns : goal.returns
unfolding rounds
returns c =
    let e2 = round_of _ _ _ _ c.mix_all-v-2.ensures c.mix_all-v.ensures in
    let e3 = round_of _ _ _ _ c.mix_all-v-3.ensures e2 in
    let e4 = round_of _ _ _ _ c.mix_all-v-4.ensures e3 in
    let e5 = round_of _ _ _ _ c.mix_all-v-5.ensures e4 in
    let e6 = round_of _ _ _ _ c.mix_all-v-6.ensures e5 in
    let e7 = round_of _ _ _ _ c.mix_all-v-7.ensures e6 in
    let e8 = round_of _ _ _ _ c.mix_all-v-8.ensures e7 in
    let e9 = round_of _ _ _ _ c.mix_all-v-9.ensures e8 in
    round_of _ _ _ _ c.mix_all.ensures e9
