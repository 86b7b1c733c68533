use Rattle.gateway.proofs.obey.Goals as goal

pub returns-in-Delete : goal.returns-in-Delete
returns-in-Delete g c =
    let deletes = rw c.deref.ensures.value at c.delete_in.ensures.deletes in
    rw c.in-Delete.is (deletes, c.delete_in.ensures.io)

pub returns-in-DeleteIncomplete : goal.returns-in-DeleteIncomplete
returns-in-DeleteIncomplete g c =
    let deletes = rw c.deref-in-DeleteIncomplete.ensures.value at c.incomplete_in.ensures.deletes in
    rw c.in-DeleteIncomplete.is (deletes, c.incomplete_in.ensures.io)

pub returns-in-List : goal.returns-in-List
returns-in-List g c = rw c.in-List.is (c.list_in.ensures.lists, c.list_in.ensures.io)

pub returns-in-Json : goal.returns-in-Json
returns-in-Json g c = rw c.in-Json.is (c.json_in.ensures.reads, c.json_in.ensures.io)

pub returns-in-Upgrade : goal.returns-in-Upgrade
returns-in-Upgrade g c = rw c.in-Upgrade.is (c.upgrade_in.ensures.upgrades, c.upgrade_in.ensures.io)

pub returns-in-Raise : goal.returns-in-Raise
returns-in-Raise g c = rw c.in-Raise.is (c.raise_in.ensures.raises, c.raise_in.ensures.io)

pub returns-in-Format : goal.returns-in-Format
returns-in-Format g c = rw c.in-Format.is c.format_at.ensures.formats

pub returns-in-Text : goal.returns-in-Text
returns-in-Text g c = rw c.in-Text.is c.text_in.ensures.texts

pub returns-in-Labels : goal.returns-in-Labels
returns-in-Labels g c = rw c.in-Labels.is c.labels_in.ensures.labels

pub returns-in-Script : goal.returns-in-Script
returns-in-Script g c = rw c.in-Script.is (c.script_in.ensures.script, c.script_in.ensures.io)

pub returns-in-Serve : goal.returns-in-Serve
returns-in-Serve g c = rw c.in-Serve.is c.serve_in.ensures.serves

pub returns-in-Up : goal.returns-in-Up
returns-in-Up g c = rw c.in-Up.is c.up_in.ensures.serves

pub returns-in-Export : goal.returns-in-Export
returns-in-Export g c = rw c.in-Export.is c.export_in.ensures.exports
