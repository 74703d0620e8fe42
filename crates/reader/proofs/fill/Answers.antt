use mathlib.Core.Path.{refl, sym, ◌∙◌}
use native.Mathlib.Omega.{arith}
use Rattle.reader.specs.Parts.{RouteAt}
use Rattle.reader.proofs.Routes.{h_is, part_after}
use Rattle.reader.proofs.fill.Goals.{After-route-body}
use Rattle.reader.proofs.fill.Goals as goal

-- where the RREQ or RREP is
placed : (c : After-route-body) → RouteAt c.args.msg.now c.route-body.result
placed c = c.route-body.ensures _ c.requires.0 c.requires.1

pub returns : goal.returns
returns c =
    let w = placed (goal.at.returns c).After-route-body in
    let v = c.requires.0 in
    let f = c.route-body.result in
    record {
      base_is = refl;
      configuration = c.read_configuration-configuration.ensures;
      discovery = rw (w.body, ← c.is_reply.ensures _ v) c.discovery-discovery.ensures;
      vector = rw w.body (sym (part_after c.args.msg.now f.start f.end 3));
      within = omega (arith, w.long, w.within);
      short = omega (arith, w.long, w.short);
      alone = λ h. omega (arith, w.alone (sym (h_is _ _ _ c.discovery-discovery.ensures) ∙ h));
      count = refl;
      targets = refl;
    }
