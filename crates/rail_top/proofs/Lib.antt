mod Forms
mod Unread
mod PrintedRuns
