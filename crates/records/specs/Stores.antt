-- The store: frames, messages and plans, each kind numbered from 1 to 255.
use Rattle.std.specs.Prelude.{◌≡◌, ℕ, List, ◌++◌, replicate, None, Option, ◌≢◌}
use Rattle.std.specs.Option.{option_map}
use Rattle.wire.specs.CheckWord.{check_word}
use Rattle.commands.specs.declared.command.Header.{Header}
use Rattle.records.specs.declared.any_record.AnyRecord.{AnyRecord}
use Rattle.records.specs.declared.any_record.AnyRecord.TheVariants.{Frame, Message, Plan}
use Rattle.commands.specs.declared.kind.RecordKind.{RecordKind}
use Rattle.commands.specs.declared.kind.RecordKind.TheVariants.{Frame as frames, Message as messages, Plan as plans}
use Rattle.records.specs.declared.frame.Frame.{Frame as TheFrame}
use Rattle.records.specs.declared.message.Message.{Message as TheMessage}
use Rattle.records.specs.declared.plan.Plan.{Plan as ThePlan}
use Rattle.records.specs.declared.store.Store.{Store}
use Rattle.records.specs.Slots.{slot_of, placed, Numbered, Rising, listing, listing_room, listing_laid, summary_bits}

abbrev pub empty_store : Store
empty_store = record { frames = replicate 255 None; messages = replicate 255 None; plans = replicate 255 None }

abbrev pub frame_header : TheFrame → Header
frame_header f = f.header

abbrev pub message_header : TheMessage → Header
message_header m = m.header

abbrev pub plan_header : ThePlan → Header
plan_header p = p.header

-- the store with a record put under its number
abbrev pub stored : Store → AnyRecord → Store
stored s (Frame f) = record { frames = placed s.frames f.header.number f; messages = s.messages; plans = s.plans }
stored s (Message m) = record { frames = s.frames; messages = placed s.messages m.header.number m; plans = s.plans }
stored s (Plan p) = record { frames = s.frames; messages = s.messages; plans = placed s.plans p.header.number p }

abbrev pub record_at : Store → RecordKind → ℕ → Option AnyRecord
record_at s frames n = option_map Frame (slot_of s.frames n)
record_at s messages n = option_map Message (slot_of s.messages n)
record_at s plans n = option_map Plan (slot_of s.plans n)

abbrev pub kind_of : AnyRecord → RecordKind
kind_of (Frame f) = frames
kind_of (Message m) = messages
kind_of (Plan p) = plans

abbrev pub number_of : AnyRecord → ℕ
number_of (Frame f) = f.header.number
number_of (Message m) = m.header.number
number_of (Plan p) = p.header.number

-- every other record is as it was
abbrev pub Untouched : Store → Store → RecordKind → ℕ → Type 0
Untouched before after kind number = (k : RecordKind) (n : ℕ) → (k ≡ kind → n ≢ number) → record_at after k n ≡ record_at before k n

-- each record stands under its own number
abbrev pub Lawful : Store → Type 0
Lawful s = Numbered frame_header s.frames × Numbered message_header s.messages × Numbered plan_header s.plans

-- number and check word of each record of a kind
abbrev pub listing_of : Store → RecordKind → List ℕ
listing_of s frames = listing frame_header s.frames
listing_of s messages = listing message_header s.messages
listing_of s plans = listing plan_header s.plans

abbrev pub listing_count : Store → RecordKind → List ℕ → Option ℕ
listing_count s frames out = listing_room frame_header s.frames out
listing_count s messages out = listing_room message_header s.messages out
listing_count s plans out = listing_room plan_header s.plans out

abbrev pub listing_written : Store → RecordKind → List ℕ → List ℕ
listing_written s frames out = listing_laid frame_header s.frames out
listing_written s messages out = listing_laid message_header s.messages out
listing_written s plans out = listing_laid plan_header s.plans out

-- the listing of a kind rises, and has each stored number once
abbrev pub RisingAt : Store → RecordKind → Type 0
RisingAt s frames = Rising frame_header s.frames
RisingAt s messages = Rising message_header s.messages
RisingAt s plans = Rising plan_header s.plans

-- the check word over all that is listed: frames, then messages, then plans
unfoldable pub checksum_of : Store → ℕ
checksum_of s = check_word (listing_of s frames ++ (listing_of s messages ++ listing_of s plans))

-- a bit for each number from 0 to 255 of frames, messages and plans
abbrev pub summary_of : Store → List ℕ
summary_of s = summary_bits s.frames ++ (summary_bits s.messages ++ summary_bits s.plans)
