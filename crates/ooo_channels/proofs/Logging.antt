-- Entries appended one by one.
use Rattle.std.proofs.Common.{◌≡◌, ℕ, ◌+◌, ◌-◌, ◌<◌, ◌≤◌, ◌++◌, arith, List, [], ◌∷◌, ap, sym, ◌∙◌, length, take, drop, map, get_or, append_assoc, length-drop}
use Rattle.std.proofs.lemmas.List.{take_more, get_or-drop, map-append}
use Rattle.ooo_time.specs.declared.stamp.Stamp.{Stamp}
use Rattle.ooo_value.specs.declared.values.Value.{Value}
use Rattle.ooo_history.specs.declared.run.Entry.{Entry}
use Rattle.ooo_channels.specs.Entries.{put_entry}

-- the next of the elements from one on
take_next : {A : Type 0} (xs : List A) (first n : ℕ) (x : A) → first ≤ n → n < length xs → x ≡ get_or xs n x → take (n + 1 - first) (drop first xs) ≡ take (n - first) (drop first xs) ++ x ∷ []
take_next xs first n x le lt is =
    let more : n + 1 - first ≡ (n - first) + 1 = omega arith in
    let here : first + (n - first) ≡ n = omega arith in
    ap (λ k. take k (drop first xs)) more
    ∙ take_more (drop first xs) (n - first) x (omega (arith, length-drop first xs))
    ∙ ap (λ y. take (n - first) (drop first xs) ++ y ∷ []) (get_or-drop first xs (n - first) x ∙ ap (λ k. get_or xs k x) here ∙ sym is)

pub logged_more :
    (start : List Entry) (stamp : Stamp) (values : List Value) (first n : ℕ) (x : Value) (now next : List Entry) → first ≤ n → n < length values →
    now ≡ start ++ map (put_entry stamp) (take (n - first) (drop first values)) → x ≡ get_or values n x → next ≡ now ++ put_entry stamp x ∷ [] →
    next ≡ start ++ map (put_entry stamp) (take (n + 1 - first) (drop first values))
logged_more start stamp values first n x now next le lt sofar is more =
    more ∙ ap (λ es. es ++ put_entry stamp x ∷ []) sofar
    ∙ append_assoc start _ _
    ∙ ap (λ es. start ++ es) (sym (map-append (put_entry stamp) (take (n - first) (drop first values)) (x ∷ [])) ∙ ap (map (put_entry stamp)) (sym (take_next values first n x le lt is)))
