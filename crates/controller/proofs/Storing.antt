-- A command that sets a record sets no time and empties no log.
use Rattle.std.proofs.Common.{◌≡◌, true, is_some, Some, sym, refl, ap, ◌∙◌}
use Rattle.std.proofs.lemmas.Bool.{false≢true}
use Rattle.calendar.specs.declared.clock.Clock.{Clock}
use Rattle.commands.specs.Sent.{Sent, start_session, password, heartbeat, end_session, set_time, text, graphic, message, plan, group_order, enabled_plans, stored_record, fault_log, empty_fault_log, order_log, readings, list_stored, refused}
use Rattle.judging.specs.Conditions.{asked}
use Rattle.records.specs.AnyRecords.{record_of}
use Rattle.controller.specs.declared.faults.FaultLog.{FaultLog}
use Rattle.records.specs.declared.any_record.AnyRecord.{AnyRecord}
use Rattle.records.specs.declared.store.Store.{Store}
use Rattle.records.specs.Stores.{stored}
use Rattle.controller.specs.declared.common.Common.{Common}
use Rattle.controller.specs.Messages.{carried_out, put_in, set_by, emptied_by}

pub storing : (said : Sent) (c : Clock) (l : FaultLog) → is_some (record_of said) ≡ true → (set_by (asked said) c ≡ c) × (emptied_by said l ≡ l)
storing start_session c l e = (refl, refl)
storing (password w) c l e = (refl, refl)
storing heartbeat c l e = (refl, refl)
storing end_session c l e = (refl, refl)
storing (set_time t) c l e = absurd (false≢true e)
storing (text h f k b t) c l e = (refl, refl)
storing (graphic h rows columns b p) c l e = (refl, refl)
storing (message h spans) c l e = (refl, refl)
storing (plan h days lines) c l e = (refl, refl)
storing (group_order o g x) c l e = (refl, refl)
storing enabled_plans c l e = (refl, refl)
storing (stored_record k n) c l e = (refl, refl)
storing fault_log c l e = (refl, refl)
storing empty_fault_log c l e = absurd (false≢true e)
storing order_log c l e = (refl, refl)
storing readings c l e = (refl, refl)
storing (list_stored k) c l e = (refl, refl)
storing (refused r) c l e = (refl, refl)

-- what every group sees, with another store, clock and fault log
abbrev with-parts : Common → Store → Clock → FaultLog → Common
with-parts c s k l = record { store = s; session = c.session; clock = k; tick_byte = c.tick_byte; error_codes = c.error_codes; readings = c.readings; faults = l }

-- What a storing command leaves is what was carried out.
pub stored-out : (said : Sent) (c : Common) (r : AnyRecord) (s : Store) → Some r ≡ record_of said → s ≡ stored c.store r
    → with-parts c s c.clock c.faults ≡ carried_out said c
stored-out said c r s set put =
    let e = storing said c.clock c.faults (ap is_some (sym set)) in
    ap (λ x. with-parts c x c.clock c.faults) (put ∙ ap (λ o. put_in o c.store) set)
    ∙ (ap (λ k. with-parts c (put_in (record_of said) c.store) k c.faults) (sym e.0)
    ∙ ap (λ l. with-parts c (put_in (record_of said) c.store) (set_by (asked said) c.clock) l) (sym e.1))
