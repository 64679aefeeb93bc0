-- What a code says, as a form, as a reader and as beginnings.
use Rattle.std.specs.Prelude.{ℕ, zero, suc, ◌+◌, Bool, true, false, not, ◌||◌, ◌&&◌, nat_lt, List, [], ◌∷◌, Option, Some, None}
use Rattle.std.specs.Option.{option_map}
use Rattle.ooo_syntax.specs.declared.symbol.Symbol.{Symbol}
use Rattle.ooo_grammar.specs.Sets.{Terminals, in_set}
use Rattle.ooo_grammar.specs.Forms.{Form, Reader, Front, Never, Nothing, nothing_r, Nothing_b, One, one_r, One_b, Then, then_r, Then_b, Mapped, mapped_r, Either, either_r, Either_b, Maybe, maybe_r, Repeats, repeats_r, Repeats_b, bottom_r}
use Rattle.ooo_grammar.specs.Names.{begins}
use Rattle.ooo_grammar.specs.Codes.{Code, nothing, token_of, pair, link, choice, maybe, many, mapped, within, deeper, outermost, refer}
use Rattle.ooo_grammar.specs.Rules.{rules}

-- how many operators one expression may hold, and the number of the first that the present one may not; no number sets no bound
pub record Room : Type 0 where
  pub limit : Option ℕ
  pub bound : Option ℕ

abbrev pub free : Room
free = record { limit = None; bound = None }

abbrev pub below : Option ℕ → ℕ → Bool
below None n = true
below (Some b) n = nat_lt n b

abbrev pub has_level : ℕ → Bool
has_level zero = false
has_level (suc n) = true

-- a token may stand where a level is left, and an operator where the expression has room for it
abbrev pub fits : ℕ → Room → Symbol → Bool
fits n room k = has_level n && (not k.counts || below room.bound k.before)

-- the room of an expression that begins here
abbrev pub enter : Room → List Symbol → Room
enter room [] = room
enter room (k ∷ ts) = record { limit = room.limit; bound = option_map (λ l. k.before + l) room.limit }

-- a spelling whose tokens stand on at most n levels
abbrev pub form : ℕ → {A : Type 0} {f : Terminals} {g : A → Terminals} {e : Bool} → Room → Code A f g e → Form A
form n room (nothing a) = Nothing a
form n room (token_of test ms of k x is) = One (fits n room) test
form n room (pair c d far) = Then (form n room c) (λ a. form n room (d a))
form n room (link c d far) = Then (form n room c) (λ a. Mapped (λ b. (a, b)) (form n room (d a)))
form n room (choice c d far) = Either (form n room c) (form n room d)
form n room (maybe c) = Maybe (form n room c)
form n room (many c far a) = Repeats (λ a. form n room (c a)) a
form n room (mapped g' h c i) = Mapped h (form n room c)
form n room (within f' g' c h i) = form n room c
form zero room (deeper c) = form zero room c
form (suc n) room (deeper c) = form n room c
form n room (outermost c) = λ ts a rest. form n (enter room ts) c ts a rest
form zero room (refer x) = Never
form (suc n) room (refer x) = form n room (rules x)

abbrev pub reader : ℕ → {A : Type 0} {f : Terminals} {g : A → Terminals} {e : Bool} → Room → Code A f g e → Reader A
reader n room (nothing a) = nothing_r a
reader n room (token_of test ms of k x is) = one_r (fits n room) test
reader n room (pair c d far) = then_r (reader n room c) (λ a. reader n room (d a))
reader n room (link c d far) = then_r (reader n room c) (λ a. mapped_r (λ b. (a, b)) (reader n room (d a)))
reader n room (choice {f1 = f1} c d far) = either_r (in_set f1) (reader n room c) (reader n room d)
reader n room (maybe {f = f} c) = maybe_r (in_set f) (reader n room c)
reader n room (many {f1 = f1} c far a) = repeats_r (in_set f1) (λ a. reader n room (c a)) a
reader n room (mapped g' h c i) = mapped_r h (reader n room c)
reader n room (within f' g' c h i) = reader n room c
reader zero room (deeper c) = reader zero room c
reader (suc n) room (deeper c) = reader n room c
reader n room (outermost c) = λ ts. reader n (enter room ts) c ts
reader zero room (refer x) = bottom_r (in_set (begins x))
reader (suc n) room (refer x) = reader n room (rules x)

-- a beginning whose tokens stand on at most n levels
abbrev pub front : ℕ → {A : Type 0} {f : Terminals} {g : A → Terminals} {e : Bool} → Room → Code A f g e → Front
front n room (nothing a) = Nothing_b
front n room (token_of test ms of k x is) = One_b (fits n room) test
front n room (pair c d far) = Then_b (form n room c) (front n room c) (λ a. front n room (d a))
front n room (link c d far) = Then_b (form n room c) (front n room c) (λ a. front n room (d a))
front n room (choice c d far) = Either_b (front n room c) (front n room d)
front n room (maybe c) = front n room c
front n room (many c far a) = Repeats_b (λ a. form n room (c a)) (λ a. front n room (c a)) a
front n room (mapped g' h c i) = front n room c
front n room (within f' g' c h i) = front n room c
front zero room (deeper c) = front zero room c
front (suc n) room (deeper c) = front n room c
front n room (outermost c) = λ ts. front n (enter room ts) c ts
front zero room (refer x) = Nothing_b
front (suc n) room (refer x) = front n room (rules x)
