-- Forms of a grammar, as relations, and readers of them, as functions.
use Rattle.std.specs.Prelude.{◌≡◌, ℕ, zero, suc, Bool, true, false, if◌then◌else◌, List, [], ◌∷◌, Option, Some, None, ◌⊎◌, length}
use Rattle.ooo_syntax.specs.declared.symbol.Symbol.{Symbol}

-- a value and the rest, the tokens from a refused one on, or those from one that is too deep on
pub data Outcome (A : Type 0) : Type 0 where
  Got : (value : A) (rest : List Symbol) → Outcome A
  Bad : (rest : List Symbol) → Outcome A
  Deep : (rest : List Symbol) → Outcome A

-- the tokens begin with a spelling of the value, and the rest follows
abbrev pub Form : Type 0 → Type 1
Form A = List Symbol → A → List Symbol → Type 0

abbrev pub Reader : Type 0 → Type 0
Reader A = List Symbol → Outcome A

-- ---- no spelling at all

abbrev pub Never : {A : Type 0} → Form A
Never ts a rest = ⊥

-- ---- a value spelled by nothing

abbrev pub Nothing : {A : Type 0} → A → Form A
Nothing a ts b rest = (b ≡ a) × (ts ≡ rest)

abbrev pub nothing_r : {A : Type 0} → A → Reader A
nothing_r a ts = Got a ts

-- ---- one token of a class, where it fits

abbrev pub One : {X : Type 0} → (Symbol → Bool) → (Symbol → Option X) → Form X
One fits test [] x rest = ⊥
One fits test (k ∷ ts) x rest = (fits k ≡ true) × (test k ≡ Some x) × (ts ≡ rest)

abbrev pub one_at : {X : Type 0} → Bool → Option X → Symbol → List Symbol → Outcome X
one_at b None k ts = Bad (k ∷ ts)
one_at true (Some x) k ts = Got x ts
one_at false (Some x) k ts = Deep (k ∷ ts)

abbrev pub one_r : {X : Type 0} → (Symbol → Bool) → (Symbol → Option X) → Reader X
one_r fits test [] = Bad []
one_r fits test (k ∷ ts) = one_at (fits k) (test k) k ts

-- ---- one form, and then another

abbrev pub Then : {A B : Type 0} → Form A → (A → Form B) → Form B
Then {A} P Q ts b rest = (a : A) × (mid : List Symbol) × P ts a mid × Q a mid b rest

abbrev pub after : {A B : Type 0} → Outcome A → (A → Reader B) → Outcome B
after (Got a rest) q = q a rest
after (Bad rest) q = Bad rest
after (Deep rest) q = Deep rest

abbrev pub then_r : {A B : Type 0} → Reader A → (A → Reader B) → Reader B
then_r p q ts = after (p ts) q

-- ---- another value for each

abbrev pub Mapped : {A B : Type 0} → (A → B) → Form A → Form B
Mapped {A} h P ts b rest = (a : A) × (b ≡ h a) × P ts a rest

abbrev pub mapped_r : {A B : Type 0} → (A → B) → Reader A → Reader B
mapped_r h p ts = after (p ts) (λ a. nothing_r (h a))

-- ---- one form or another, by the first token

abbrev pub Either : {A : Type 0} → Form A → Form A → Form A
Either P Q ts a rest = P ts a rest ⊎ Q ts a rest

abbrev pub begins_with : (Symbol → Bool) → List Symbol → Bool
begins_with first [] = false
begins_with first (k ∷ ts) = first k

abbrev pub either_r : {A : Type 0} → (Symbol → Bool) → Reader A → Reader A → Reader A
either_r first p q ts = if begins_with first ts then p ts else q ts

-- ---- a form or nothing

abbrev pub Maybe : {A : Type 0} → Form A → Form (Option A)
Maybe P ts None rest = ts ≡ rest
Maybe P ts (Some a) rest = P ts a rest

abbrev pub maybe_r : {A : Type 0} → (Symbol → Bool) → Reader A → Reader (Option A)
maybe_r first p ts = if begins_with first ts then mapped_r Some p ts else Got None ts

-- ---- a form any number of times

pub data Repeats {A : Type 0} (step : A → Form A) : A → List Symbol → A → List Symbol → Type 0 where
  stop : {a : A} {rest : List Symbol} → Repeats step a rest a rest
  go : {a b c : A} {ts mid rest : List Symbol} → step a ts b mid → Repeats step b mid c rest → Repeats step a ts c rest

abbrev pub repeats_in : {A : Type 0} → (Symbol → Bool) → (A → Reader A) → ℕ → A → Reader A
repeats_in first step zero a ts = Got a ts
repeats_in first step (suc n) a ts = if begins_with first ts then after (step a ts) (repeats_in first step n) else Got a ts

abbrev pub repeats_r : {A : Type 0} → (Symbol → Bool) → (A → Reader A) → A → Reader A
repeats_r first step a ts = repeats_in first step (length ts) a ts

-- ---- where no level is left: what begins the form is too deep

abbrev pub bottom_r : {A : Type 0} → (Symbol → Bool) → Reader A
bottom_r first ts = if begins_with first ts then Deep ts else Bad ts

-- ---- the beginnings of spellings: nothing begins every form; a beginning of the first part; a whole first part, and then a beginning of the rest

abbrev pub Front : Type 1
Front = List Symbol → Type 0

abbrev pub Nothing_b : Front
Nothing_b ts = ts ≡ []

abbrev pub One_b : {X : Type 0} → (Symbol → Bool) → (Symbol → Option X) → Front
One_b fits test [] = Unit {0}
One_b {X} fits test (k ∷ ts) = (x : X) × (fits k ≡ true) × (test k ≡ Some x) × (ts ≡ [])

abbrev pub Then_b : {A : Type 0} → Form A → Front → (A → Front) → Front
Then_b {A} P S T ts = S ts ⊎ ((a : A) × (mid : List Symbol) × P ts a mid × T a mid)

abbrev pub Either_b : Front → Front → Front
Either_b S T ts = S ts ⊎ T ts

pub data Repeats_b {A : Type 0} (step : A → Form A) (front : A → Front) : A → List Symbol → Type 0 where
  none : {a : A} → Repeats_b step front a []
  begun : {a : A} {ts : List Symbol} → front a ts → Repeats_b step front a ts
  gone : {a b : A} {ts mid : List Symbol} → step a ts b mid → Repeats_b step front b mid → Repeats_b step front a ts
