use Rattle.std.proofs.Common.{sym}
use Rattle.sheet.proofs.Questions.{described_yes}
use Rattle.sheet.proofs.states.Draft.enter.Goals as goal

pub push-requires : goal.push-requires
push-requires c =
    let args = c.args in
    let described = described_yes args.kind args.letter args.spread args.parts c.in_ok-action.action c.in_ok-action.ensures in
    record { formed = described.formed; room = sym c.if-not-has_room.ensures }
