use Rattle.edwards.proofs.extended.doubled.Goals as goal

pub returns : goal.returns
returns g c d complete s on of_a =
    c.doubled_of.ensures d complete s on
    (record { some = of_a.some; first = of_a.first; second = of_a.second })
