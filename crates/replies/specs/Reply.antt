-- What a reply holds, and a word in it. Assumes nothing.
use Rattle.std.specs.Prelude.{◌≡◌, ℕ, ◌/◌, ◌%◌, List, [], ◌∷◌}
use Rattle.octets.specs.Held.{held}
use Rattle.replies.specs.declared.reply.Reply.{Reply}

-- the message
unfoldable pub contents : Reply → List ℕ
contents r = held r.message

-- replies that hold the same message are equal
abbrev pub Alike : Type 0
Alike = (a b : Reply) → contents a ≡ contents b → a ≡ b

-- a word, high byte first
abbrev pub word : ℕ → List ℕ
word w = w / 256 ∷ w % 256 ∷ []
