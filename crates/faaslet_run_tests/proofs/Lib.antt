mod Knowing
mod Replies
mod Answering
mod Beginning
