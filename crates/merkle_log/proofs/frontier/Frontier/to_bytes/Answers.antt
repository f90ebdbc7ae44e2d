use Rattle.std.proofs.Common.{◌++◌, map, Ok, ap, ◌∙◌}
use Rattle.std.proofs.lemmas.List.{length-map}
use Rattle.ark_base.specs.Outcome.{◌>>=◌}
use Rattle.ark_base.specs.Spelling.{word}
use Rattle.merkle_log.specs.Frontier.{frontier_in, frontier_of}
use Rattle.merkle_log.proofs.Bytes.{peaks-again, spelled-digests, written_is}
use Rattle.merkle_log.proofs.Receiving.{numbers-read}
use Rattle.merkle_log.proofs.frontier.Frontier.to_bytes.Goals as goal

pub returns-clause-written : goal.returns-clause-written
returns-clause-written g c =
    let own = c.self.inside in
    let plain = written_is g.D.Canonical.spelling g.D.Canonical.view own.size _ _ _ _ own.peaks.items
    c.new-bytes.ensures.items c.in_ok-serialize.ensures.appended c.in_ok-serialize_items.ensures.appended
    c.deref.ensures.value in
    rw (← c.self.view_is) (plain ∙ ap (λ l. word own.size ++ l) (spelled-digests g.D.Numbered.numbers g.D.Canonical.view
    g.D.Canonical.spelling g.D.DigestItem.bytes_of g.met.D.DigestItem.bytes_are own.peaks.items))

pub returns-clause-again : goal.returns-clause-again
returns-clause-again g c =
    let own = c.self.inside in
    let numbers = g.D.Numbered.numbers in
    let view = g.D.Canonical.view in
    let plain = written_is g.D.Canonical.spelling view own.size _ _ _ _ own.peaks.items
    c.new-bytes.ensures.items c.in_ok-serialize.ensures.appended c.in_ok-serialize_items.ensures.appended
    c.deref.ensures.value in
    let read = peaks-again g.D.Canonical.has_spelling g.D.Canonical.spelling g.D.Canonical.reads g.D.Canonical.laws
    (λ value. g.D.DigestItem.numbers_of (g.D.Canonical.spelling value)) own.size (map view own.peaks.items)
    c.in_ok-serialize.ensures.spelled (rw (c.deref.ensures.value) at c.in_ok-serialize_items.ensures.spelled)
    (length-map own.peaks.items view ∙ c.self.invariant) in
    rw (← c.self.view_is) (ap (frontier_in g.D.Canonical.reads
    (λ value. g.D.DigestItem.numbers_of (g.D.Canonical.spelling value)) own.hasher (numbers own.empty)) plain
    ∙ ap (λ o. o >>= λ read. Ok (frontier_of own.hasher (numbers own.empty) read))
    (read ∙ ap (λ l. Ok (own.size, l)) (numbers-read numbers view
    (λ value. g.D.DigestItem.numbers_of (g.D.Canonical.spelling value)) g.met.D.DigestItem.numbers_are
    own.peaks.items)))
