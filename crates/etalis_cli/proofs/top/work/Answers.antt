use Rattle.std.proofs.Common.{List, ℕ, ap, subst, refl}
use Rattle.std.specs.Prelude.{IfSome}
use Rattle.flow_ports.specs.Flow.{Rose}
use Rattle.job_words.specs.Words.{plain_job}
use Rattle.etalis_core.specs.StandsFor.{rules_of, late_of}
use Rattle.etalis_cli.specs.Rules.{Accepted}
use Rattle.etalis_cli.specs.Modes.{reads}
use Rattle.etalis_cli.specs.Outcome.{Written, Served}
use Rattle.etalis_cli.specs.Output.{Setting}
use Rattle.etalis_cli.specs.Run.{RunEnds.OverRules, RunEnds.OverLines}
use Rattle.etalis_cli.proofs.TopLaws.{read_modes, setting_is, checked_text, drilled_text}
use Rattle.etalis_cli.proofs.top.work.Goals as goal

pub returns-in-Check : goal.returns-in-Check
returns-in-Check g c =
    let job = plain_job c.in-Ok.job in
    let rules = rules_of c.in-Ok-read_rules.engine in
    OverRules c.write_rules.result c.cause_of.ensures (record {
      job = job;
      rules = rules;
      asks = c.in-Ok.ensures.ok;
      reading = ap reads c.in-Check.is;
      accepted = subst (λ name. IfSome (g.S.Shelf.holds c.args.shelf.now name) (λ file. Accepted file rules))
          c.as_str.ensures.value c.in-Ok-read_rules.ensures.read.0;
      written = subst (λ (t : List ℕ). Written c.write_rules.result (g.O.Sink.got c.args.out.now) (g.O.Sink.got c.write_rules.new.out) t)
          (checked_text job rules c.in-Check.is) c.write_rules.ensures.written;
      very_same = refl;
      same_left = refl;
      shelf = c.in-Ok-read_rules.ensures.read.1;
      counts = c.write_rules.ensures.counts (g.I.Source.faults c.args.input.now);
    })

pub returns-in-Drill : goal.returns-in-Drill
returns-in-Drill g c =
    let job = plain_job c.in-Ok.job in
    let rules = rules_of c.in-Ok-read_rules.engine in
    OverRules c.write_drill.result c.cause_of-in-Drill.ensures (record {
      job = job;
      rules = rules;
      asks = c.in-Ok.ensures.ok;
      reading = ap reads c.in-Drill.is;
      accepted = subst (λ name. IfSome (g.S.Shelf.holds c.args.shelf.now name) (λ file. Accepted file rules))
          c.as_str.ensures.value c.in-Ok-read_rules.ensures.read.0;
      written = subst (λ (t : List ℕ). Written c.write_drill.result (g.O.Sink.got c.args.out.now) (g.O.Sink.got c.write_drill.new.out) t)
          (drilled_text job rules (late_of c.in-Ok-read_rules.engine) c.in-Ok-read_rules.ensures.late c.in-Drill.is) c.write_drill.ensures.written;
      very_same = refl;
      same_left = refl;
      shelf = c.in-Ok-read_rules.ensures.read.1;
      counts = c.write_drill.ensures.counts (g.I.Source.faults c.args.input.now);
    })

pub returns : goal.returns
returns g c =
    let (taken, served) = c.serve_lines.ensures.served in
    let job = plain_job c.in-Ok.job in
    let rules = rules_of c.in-Ok-read_rules.engine in
    OverLines c.serve_lines.result c.cause_of-in-Run.ensures (record {
      job = job;
      rules = rules;
      taken = taken;
      asks = c.in-Ok.ensures.ok;
      reading = read_modes c.in-Ok.job.mode c.in-Run.is;
      accepted = subst (λ name. IfSome (g.S.Shelf.holds c.args.shelf.now name) (λ file. Accepted file rules))
          c.as_str.ensures.value c.in-Ok-read_rules.ensures.read.0;
      served = subst (λ (w : Setting). Served w c.serve_lines.result (g.I.Source.left c.args.input.now) (g.I.Source.left c.serve_lines.new.input)
          (g.O.Sink.got c.args.out.now) (g.O.Sink.got c.serve_lines.new.out) (Rose (g.O.Sink.faults c.args.out.now) (g.O.Sink.faults c.serve_lines.new.out)) taken)
          (setting_is job rules (late_of c.in-Ok-read_rules.engine) c.voice_of.result c.in-Ok-read_rules.ensures.late c.voice_of.ensures) served;
      shelf = c.in-Ok-read_rules.ensures.read.1;
      counts = c.serve_lines.ensures.counts;
    })
