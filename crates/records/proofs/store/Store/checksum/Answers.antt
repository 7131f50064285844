use Rattle.std.proofs.Common.{◌≡◌, ℕ, List, [], ◌++◌, take, ap, ◌∙◌, append_assoc}
use Rattle.wire.specs.CheckWord.{check_word}
use Rattle.commands.specs.declared.kind.RecordKind.TheVariants.{Frame, Message, Plan}
use Rattle.records.specs.Stores.{listing_of, checksum_of}
use Rattle.records.proofs.store.Store.checksum.Goals as goal

-- three listings, each behind what was listed before it
three : (l₁ l₂ l₃ a b d : List ℕ) (i j k : ℕ) → take i l₁ ≡ [] ++ a → take j l₂ ≡ take i l₁ ++ b → take k l₃ ≡ take j l₂ ++ d → take k l₃ ≡ a ++ (b ++ d)
three l₁ l₂ l₃ a b d i j k p q r = let s = append_assoc a b d in cc

pub returns : goal.returns
unfolding checksum_of
returns c =
    c.check_word.ensures.word
    ∙ ap check_word (three c.list_behind-frames.new.out c.list_behind-messages.new.out c.list_behind-end.new.out
    (listing_of c.args.self.now Frame) (listing_of c.args.self.now Message) (listing_of c.args.self.now Plan)
    c.list_behind-frames.result c.list_behind-messages.result c.list_behind-end.result
    c.list_behind-frames.ensures.front c.list_behind-messages.ensures.front c.list_behind-end.ensures.front)
