use Rattle.std.proofs.Common.{arith}
use Rattle.rl_window.proofs.Kept.{may_load, may_store, may_exchange, may_take, may_card_load, may_card_store, may_leave}
use Rattle.rl_window.proofs.window.Window.make_told.Goals as goal

pub load-requires : goal.load-requires
load-requires g c =
    let t = may_load g.C.Core.rule g.C.Core.table g.met.C.Core.laws c.args.self.now.table.shared.key c.args.self.now.table.shared.table_id.slots c.args.seat.now.id c.args.self.now.core c.args.self.now.size
    c.args.self.now.nodes c.args.rank c.args.view.now c.args.atom g.W.Tell.told c.args.seat.now.me c.requires.told c.requires.own.1 c.requires.may_be c.requires.kept c.requires.planned c.in-Load.word c.in-Load.is in
    (c.requires.own.0, (let h = t.0 in let size = c.args.self.now.sized.0 in omega arith), t.1)

pub store-requires : goal.store-requires
store-requires g c =
    let t = may_store g.C.Core.rule g.C.Core.table g.met.C.Core.laws c.args.self.now.table.shared.key c.args.self.now.table.shared.table_id.slots c.args.seat.now.id c.args.self.now.core c.args.self.now.size
    c.args.self.now.nodes c.args.rank c.args.view.now c.args.atom g.W.Tell.told c.args.seat.now.me c.requires.told c.requires.own.1 c.requires.may_be c.requires.kept c.requires.planned c.in-Store.word c.in-Store.value c.in-Store.is in
    (c.requires.own.0, (let h = t.0 in let size = c.args.self.now.sized.0 in omega arith), t.1)

pub compare_exchange-requires : goal.compare_exchange-requires
compare_exchange-requires g c =
    let t = may_exchange g.C.Core.rule g.C.Core.table g.met.C.Core.laws c.args.self.now.table.shared.key c.args.self.now.table.shared.table_id.slots c.args.seat.now.id c.args.self.now.core c.args.self.now.size
    c.args.self.now.nodes c.args.rank c.args.view.now c.args.atom g.W.Tell.told c.args.seat.now.me c.requires.told c.requires.own.1 c.requires.may_be c.requires.kept c.requires.planned c.in-LocalCas.word c.in-LocalCas.old c.in-LocalCas.new c.in-LocalCas.is in
    (c.requires.own.0, (let h = t.0 in let size = c.args.self.now.sized.0 in omega arith), t.1)

pub compare_exchange-requires-in-Take : goal.compare_exchange-requires-in-Take
compare_exchange-requires-in-Take g c =
    let t = may_take g.C.Core.rule g.C.Core.table g.met.C.Core.laws c.args.self.now.table.shared.key c.args.self.now.table.shared.table_id.slots c.args.seat.now.id c.args.self.now.core c.args.self.now.size
    c.args.self.now.nodes c.args.rank c.args.view.now c.args.atom g.W.Tell.told c.args.seat.now.me c.requires.told c.requires.own.1 c.requires.may_be c.requires.kept c.requires.planned c.in-Take.node c.in-Take.is in
    (c.requires.own.0, (let h = t.0 in let size = c.args.self.now.sized.0 in let e = c.card-card.ensures in omega arith), rw c.card-card.ensures t.1)

pub load-requires-in-CardLoad : goal.load-requires-in-CardLoad
load-requires-in-CardLoad g c =
    let t = may_card_load g.C.Core.rule g.C.Core.table g.met.C.Core.laws c.args.self.now.table.shared.key c.args.self.now.table.shared.table_id.slots c.args.seat.now.id c.args.self.now.core c.args.self.now.size
    c.args.self.now.nodes c.args.rank c.args.view.now c.args.atom g.W.Tell.told c.args.seat.now.me c.requires.told c.requires.own.1 c.requires.may_be c.requires.kept c.requires.planned c.in-CardLoad.word c.in-CardLoad.is in
    (c.requires.own.0, (let h = t.0 in let size = c.args.self.now.sized.0 in omega arith), t.1)

pub store-requires-in-CardStore : goal.store-requires-in-CardStore
store-requires-in-CardStore g c =
    let t = may_card_store g.C.Core.rule g.C.Core.table g.met.C.Core.laws c.args.self.now.table.shared.key c.args.self.now.table.shared.table_id.slots c.args.seat.now.id c.args.self.now.core c.args.self.now.size
    c.args.self.now.nodes c.args.rank c.args.view.now c.args.atom g.W.Tell.told c.args.seat.now.me c.requires.told c.requires.own.1 c.requires.may_be c.requires.kept c.requires.planned c.in-CardStore.word c.in-CardStore.value c.in-CardStore.is in
    (c.requires.own.0, (let h = t.0 in let size = c.args.self.now.sized.0 in omega arith), t.1)

pub store-requires-in-Leave : goal.store-requires-in-Leave
store-requires-in-Leave g c =
    let t = may_leave g.C.Core.rule g.C.Core.table g.met.C.Core.laws c.args.self.now.table.shared.key c.args.self.now.table.shared.table_id.slots c.args.seat.now.id c.args.self.now.core c.args.self.now.size
    c.args.self.now.nodes c.args.rank c.args.view.now c.args.atom g.W.Tell.told c.args.seat.now.me c.requires.told c.requires.own.1 c.requires.may_be c.requires.kept c.requires.planned c.in-Leave.node c.in-Leave.is in
    (c.requires.own.0, (let h = t.0 in let size = c.args.self.now.sized.0 in let e = c.card-card-in-Leave.ensures in omega arith), rw c.card-card-in-Leave.ensures t.1)
