-- What is passed next has a greater number, and its port shows it.
use Rattle.std.proofs.Common.{◌≡◌, ◌+◌, ◌++◌, [], ◌∷◌, List, drop, take, arith, ap, sym, subst, ◌∙◌}
use Rattle.std.proofs.lemmas.List.{map-append, take_all, take_more}
use Rattle.ooo_code.specs.declared.activation.Seen.{Seen}
use Rattle.ooo_interp.specs.Jobs.{IsKeptBy, SeenAscend}
use Rattle.ooo_interp.specs.Ports.{all_shown, shown, values_in}
use Rattle.ooo_interp.proofs.Ported.{next_is_above}
use Rattle.ooo_interp.proofs.Sighted.{kept, split_at}
use Rattle.ooo_interp.proofs.segments.ports_of.Goals as goal

pub loop-channel-init : goal.loop-channel-init
loop-channel-init c = ap (all_shown (values_in c.args.seen.now)) c.in_ok-ports.ensures

pub push-requires : goal.push-requires
push-requires c =
    let ss : List Seen = c.args.seen.now in
    let x : Seen = c.channel-item.result in
    let keeps : IsKeptBy (values_in ss) x = subst (IsKeptBy (values_in ss)) (sym c.channel-item.is) (kept ss c.loop-channel.channel-index x c.requires.ascending c.loop-channel-test.true) in
    let whole : all_shown (values_in ss) c.loop-channel.ports ++ x ∷ drop (c.loop-channel.channel-index + 1) ss ≡ ss =
    ap (λ xs. xs ++ x ∷ drop (c.loop-channel.channel-index + 1) ss) c.loop-channel.invariant
    ∙ ap (λ y. take c.loop-channel.channel-index ss ++ y ∷ drop (c.loop-channel.channel-index + 1) ss) c.channel-item.is
    ∙ split_at ss c.loop-channel.channel-index x c.loop-channel-test.true in
    next_is_above (values_in ss) c.loop-channel.ports x (drop (c.loop-channel.channel-index + 1) ss) c.port_of.result (subst SeenAscend (sym whole) c.requires.ascending) (c.port_of.ensures.shown (values_in ss) keeps)

pub loop-channel-preserved : goal.loop-channel-preserved
loop-channel-preserved c =
    let ss : List Seen = c.args.seen.now in
    let x : Seen = c.channel-item.result in
    let keeps : IsKeptBy (values_in ss) x = subst (IsKeptBy (values_in ss)) (sym c.channel-item.is) (kept ss c.loop-channel.channel-index x c.requires.ascending c.loop-channel-test.true) in
    ap (all_shown (values_in ss)) c.in-Ok.ensures.ok
    ∙ map-append (shown (values_in ss)) c.loop-channel.ports (c.port_of.result ∷ [])
    ∙ ap (λ xs. xs ++ shown (values_in ss) c.port_of.result ∷ []) c.loop-channel.invariant
    ∙ ap (λ y. take c.loop-channel.channel-index ss ++ y ∷ []) (c.port_of.ensures.shown (values_in ss) keeps ∙ c.channel-item.is)
    ∙ sym (take_more ss c.loop-channel.channel-index x c.loop-channel-test.true)

pub returns : goal.returns
returns c = c.loop-channel.invariant ∙ take_all c.loop-channel.channel-index c.args.seen.now (let l = c.loop-channel-test.false in omega (arith, l))
