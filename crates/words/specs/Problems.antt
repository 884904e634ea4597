-- The words of each problem.
use Rattle.std.specs.Prelude.{◌≡◌, ℕ, ◌⊎◌, List, Ok, Err, codes, Result}
use Rattle.words.specs.declared.problem.Problem.{Problem}
use Rattle.words.specs.declared.problem.Problem.TheVariants.{UnknownCommand, MissingWord, ExtraWord, NotANumber, OutOfRange, NotARecord, OddHex, NotHex, NotAVerdict, NotAnAsk, NotAsks, NoMember, OutOfMemory}

abbrev pub text_of : Problem → List ℕ
text_of UnknownCommand = codes "unknown command"
text_of MissingWord = codes "a word is missing"
text_of ExtraWord = codes "a word too many"
text_of NotANumber = codes "not a decimal number"
text_of OutOfRange = codes "number out of range"
text_of NotARecord = codes "not a record: expected 'bytes' or a kind"
text_of OddHex = codes "odd number of hex digits"
text_of NotHex = codes "not lower-case hex digits"
text_of NotAVerdict = codes "not a verdict: expected 'pass' or 'fail'"
text_of NotAnAsk = codes "not an ask: expected 'nullification' or 'notarization'"
text_of NotAsks = codes "not asks: expected 'background', 'nullification', 'notarization' or '-'"
text_of NoMember = codes "no member yet"
text_of OutOfMemory = codes "out of memory"

-- what is answered, up to memory: the value or the problem that is meant, or that there was no memory
abbrev pub Told : {A B : Type 0} → Result A Problem → (A → B) → Result B Problem → Type 0
Told (Ok x) f meant = meant ≡ Ok (f x)
Told (Err p) f meant = (p ≡ OutOfMemory) ⊎ (meant ≡ Err p)

-- go on with what was read, or keep the problem
unfoldable pub bind : {A B : Type 0} → Result A Problem → (A → Result B Problem) → Result B Problem
bind (Ok x) f = f x
bind (Err p) f = Err p
