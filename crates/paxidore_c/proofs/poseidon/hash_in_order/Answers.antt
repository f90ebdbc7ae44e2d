use Rattle.paxidore_c.proofs.poseidon.hash_in_order.Goals as goal

pub returns-in-1 : goal.returns-in-1
returns-in-1 c = λ count parameters spells. rw c.in-1.is (c.hash_in.ensures count parameters spells)

pub returns-in-2 : goal.returns-in-2
returns-in-2 c = λ count parameters spells. rw c.in-2.is (c.hash_in-in-2.ensures count parameters spells)
