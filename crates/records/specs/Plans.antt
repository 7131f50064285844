-- Plans: which entry covers a minute, what two plans share, and the command that a plan came by.
use Rattle.std.specs.Prelude.{◌≡◌, ℕ, ◌/◌, ◌%◌, ◌^◌, ◌<◌, min, max, Bool, true, false, cond, ◌&&◌, ◌||◌, List, [], ◌∷◌, map, is_some, Some, None, Option, ◌==◌, nat_le, nat_lt, slice_index_or}
use Rattle.std.specs.List.{flat_map, find, list_any, range_with_len}
use Rattle.std.specs.Option.{option_to_list}
use Rattle.commands.specs.declared.command.Header.{Header}
use Rattle.commands.specs.declared.lists.Line.{Line}
use Rattle.commands.specs.Lists.{minutes_of}
use Rattle.records.specs.declared.plan.Entry.{Entry}
use Rattle.records.specs.declared.plan.Plan.{Plan}
use Rattle.records.specs.declared.plan.Shows.TheVariants.{Frame, Message}
use Rattle.records.specs.Writing.{command_of}

-- what a line of kind 1 or 2 says, its times as minutes of the day
abbrev pub entry_of : Line → Option Entry
entry_of l =
    cond (l.kind == 1) (Some (record { shows = Frame l.number; start = minutes_of l.start; stop = minutes_of l.stop }))
    (cond (l.kind == 2) (Some (record { shows = Message l.number; start = minutes_of l.start; stop = minutes_of l.stop }))
    None)

unfoldable pub plan_of : Header → ℕ → List Line → Plan
plan_of h days lines = record { header = h; days = days; entries = map entry_of lines }

-- the stop is outside
abbrev pub covers : Entry → ℕ → Bool
covers e minute = nat_le e.start minute && nat_lt minute e.stop

-- bit 0 is Sunday
abbrev pub runs_on : ℕ → ℕ → Bool
runs_on days weekday = nat_lt weekday 7 && days / 2 ^ weekday % 2 == 1

abbrev pub covered : Option Entry → ℕ → Bool
covered None minute = false
covered (Some e) minute = covers e minute

-- the entries of the lines that are filled
abbrev pub filled : List (Option Entry) → List Entry
filled xs = flat_map option_to_list xs

-- the first entry that covers a minute
abbrev pub covering : List (Option Entry) → ℕ → Option Entry
covering xs minute = find (λ e. covers e minute) (filled xs)

unfoldable pub entry_at : Plan → ℕ → ℕ → Option Entry
entry_at p weekday minute = cond (runs_on p.days weekday) (covering p.entries minute) None

-- two entries share a minute
abbrev pub meets : Entry → Entry → Bool
meets a b = nat_lt (max a.start b.start) (min a.stop b.stop)

-- an entry shares a minute with one of several
abbrev pub meets_any : Entry → List (Option Entry) → Bool
meets_any e xs = list_any (λ x. meets e x) (filled xs)

-- two entries of a list share a minute
abbrev pub clashing : List (Option Entry) → Bool
clashing [] = false
clashing (None ∷ xs) = clashing xs
clashing (Some e ∷ xs) = meets_any e xs || clashing xs

-- an entry of one list shares a minute with one of another
abbrev pub any_meet : List (Option Entry) → List (Option Entry) → Bool
any_meet others xs = list_any (λ x. meets_any x others) (filled xs)

abbrev pub both_run : ℕ → ℕ → ℕ → Bool
both_run days others weekday = runs_on days weekday && runs_on others weekday

-- both run on some weekday
unfoldable pub common_day : ℕ → ℕ → Bool
common_day days others = list_any (λ weekday. both_run days others weekday) (range_with_len 0 7)

-- two plans share a minute of a weekday
unfoldable pub shares : Plan → Plan → Bool
shares p q = common_day p.days q.days && any_meet q.entries p.entries

-- two entries of a list, at different places, cover one minute
abbrev pub Overlapping : List (Option Entry) → Type 0
Overlapping xs = (i : ℕ) × ((j : ℕ) × ((m : ℕ) × ((i < j) × ((covered (slice_index_or xs i None) m ≡ true) × (covered (slice_index_or xs j None) m ≡ true)))))

-- both plans have an entry at one minute of one weekday
abbrev pub SharesMinute : Plan → Plan → Type 0
SharesMinute p q = (w : ℕ) × ((m : ℕ) × ((is_some (entry_at p w m) ≡ true) × (is_some (entry_at q w m) ≡ true)))

-- kind, number, start and stop
abbrev pub line_of : Option Entry → List ℕ
line_of None = 0 ∷ 0 ∷ 0 ∷ 0 ∷ 0 ∷ 0 ∷ []
line_of (Some e) = elim e.shows [
  | Frame n ↦ 1 ∷ n ∷ e.start / 60 % 256 ∷ e.start % 60 ∷ e.stop / 60 % 256 ∷ e.stop % 60 ∷ []
  | Message n ↦ 2 ∷ n ∷ e.start / 60 % 256 ∷ e.start % 60 ∷ e.stop / 60 % 256 ∷ e.stop % 60 ∷ []
]

unfoldable pub plan_bytes : Plan → List ℕ
plan_bytes p = command_of (0x0D ∷ p.header.number ∷ p.header.revision ∷ p.days ∷ []) (flat_map line_of p.entries) p.header.check
