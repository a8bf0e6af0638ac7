-- `reports::refused` meets its contract: the line has room.
-- Assumes nothing.
use native.Mathlib.Omega.{arith}
use Rattle.reports.proofs.Texts.{put_whole}
use Rattle.texts.proofs.Listing.{refused_length}
use Rattle.reports.proofs.refused.Goals as goal

pub returns : goal.returns
returns c =
    let whole = put_whole c.put_refused.ensures (omega (arith, refused_length c.args.why)) in
    record { put = whole.0; out_after = whole.1.0; prefix_len = whole.1.1 }
