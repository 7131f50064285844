use Rattle.std.proofs.Common.{◌≡◌, Option, sym, ap, ◌∙◌, subst}
use Rattle.commands.specs.Sent.{parsed}
use Rattle.fitness.specs.Fitness.{fit}
use Rattle.records.specs.declared.any_record.AnyRecord.{AnyRecord}
use Rattle.records.specs.AnyRecords.{record_of, GivesBack}
use Rattle.records.proofs.Back.{gives_back}
use Rattle.records.proofs.any_record.AnyRecord.of.Goals as goal

pub returns : goal.returns
returns c = record {
  value = c.set_by.ensures;
  back = λ m b e f.
      let x : record_of (parsed m) ≡ c.set_by.result = ap record_of e ∙ sym c.set_by.ensures in
      let P : Option AnyRecord → Type 0 = GivesBack m in
      subst P x (gives_back m b (ap fit e ∙ f));
}
