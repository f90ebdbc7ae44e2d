use Rattle.std.proofs.Common.{◌++◌}
use Rattle.ark_base.specs.Spelling.{word}
use Rattle.ark_base.specs.Digits.{bytes_of_number, bytes_for}
use Rattle.ark_sponge.proofs.ConfigBytes.{on_ok, rows_fit, rows_spelled, with_rows}
use Rattle.ark_sponge.proofs.poseidon.config.bytes.PoseidonConfigCanonicalSerialize.serialize.Goals as goal

pub returns-clause-spelled : goal.returns-clause-spelled
returns-clause-spelled g c =
    let f = g.F.Field in
    let canonical = g.F.Canonical in
    let i = c.self.inside in
    let below = g.met.F.Field.laws.below in
    let fit = rows_fit canonical.view g.F.Valued.value (λ row. row.items) f.MODULUS canonical.has_spelling below in
    let known = rw (← c.self.view_is) at c.rate-known.ensures.lawful in
    rw (← c.self.view_is)
    (on_ok c.serialize.result (λ h. (
      (
        h.0,
        (
          h.1.0,
          (
            h.1.1.0,
            (
              fit i.ark.items h.1.1.1.0,
              (
                fit i.mds.items h.1.1.1.1.0,
                h.1.1.1.1.1,
              ),
            ),
          ),
        ),
      ),
      known,
    )) c.serialize.ensures.spelled)

pub returns-clause-appended : goal.returns-clause-appended
returns-clause-appended g c =
    let f = g.F.Field in
    let canonical = g.F.Canonical in
    let i = c.self.inside in
    let same = rows_spelled canonical.view g.F.Valued.value (λ row. row.items) canonical.spelling
    (bytes_of_number (bytes_for f.MODULUS_BIT_SIZE)) g.met.F.Field.spelling_is in
    rw (← c.self.view_is)
    (on_ok c.serialize.result (with_rows c.args.dest.now.items c.serialize.new.dest.items (word i.full_rounds)
    (word i.partial_rounds) (word i.alpha) _ _ _ _
    (word i.rate ++ word i.capacity) (same i.ark.items) (same i.mds.items)) c.serialize.ensures.appended)
